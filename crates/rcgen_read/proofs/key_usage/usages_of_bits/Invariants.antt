use Rattle.std.proofs.Common.{◌≡◌, filter, take}
use Rattle.rcgen_certificate.specs.KeyUsages.{bit_of}
use Rattle.asn1_core.specs.Bits.{has_bit}
use Rattle.rcgen_read.proofs.key_usage.usages_of_bits.Given as goal

-- those of the bits so far
abbrev pub invariant-loop-place : goal.invariant-loop-place
invariant-loop-place l = l.usages.items ≡ filter (λ u. has_bit l.bits (bit_of u)) (take l.place l.usage-items)
