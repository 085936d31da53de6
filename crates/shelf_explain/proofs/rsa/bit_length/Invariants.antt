use Rattle.std.proofs.Common.{◌≡◌, length}
use Rattle.asn1_core.specs.Twos.{number}
use Rattle.shelf_explain.proofs.rsa.bit_length.Given as goal

-- the octets so far are zeros
abbrev pub invariant-loop-rest : goal.invariant-loop-rest
invariant-loop-rest l = number l.rest ≡ number l.octets

abbrev pub decreases-loop-rest : goal.decreases-loop-rest
decreases-loop-rest l = length l.rest
