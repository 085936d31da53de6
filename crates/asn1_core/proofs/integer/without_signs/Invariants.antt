use Rattle.std.proofs.Common.{◌≡◌, length}
use Rattle.asn1_core.specs.Twos.{without_signs}
use Rattle.asn1_core.proofs.integer.without_signs.Given as goal

abbrev pub invariant-loop-rest : goal.invariant-loop-rest
invariant-loop-rest l = without_signs l.rest ≡ without_signs l.bytes

abbrev pub decreases-loop-rest : goal.decreases-loop-rest
decreases-loop-rest l = length l.rest
