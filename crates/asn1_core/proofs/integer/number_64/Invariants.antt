use Rattle.std.proofs.Common.{◌≡◌, length}
use Rattle.std.specs.Int.Digits.{number_from_digits_after}
use Rattle.asn1_core.specs.Twos.{number}
use Rattle.asn1_core.proofs.integer.number_64.Given as goal

abbrev pub invariant-loop-rest : goal.invariant-loop-rest
invariant-loop-rest l = number_from_digits_after 256 l.number l.rest ≡ number l.bytes

abbrev pub decreases-loop-rest : goal.decreases-loop-rest
decreases-loop-rest l = length l.rest
