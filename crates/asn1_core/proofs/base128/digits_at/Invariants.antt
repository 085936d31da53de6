use Rattle.std.proofs.Common.{◌≡◌, length}
use Rattle.asn1_core.specs.Base128.{digits_at}
use Rattle.asn1_core.proofs.base128.digits_at.Given as goal

abbrev pub invariant-loop-rest : goal.invariant-loop-rest
invariant-loop-rest l = digits_at l.limit l.high l.rest ≡ digits_at l.limit 0 l.bytes

abbrev pub decreases-loop-rest : goal.decreases-loop-rest
decreases-loop-rest l = length l.rest
