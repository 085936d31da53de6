use Rattle.std.proofs.Common.{◌≡◌, length}
use Rattle.std.specs.Prelude.{is_some}
use Rattle.asn1_core.specs.ObjectIdentifiers.{subidentifiers}
use Rattle.asn1_core.proofs.object_identifier.are_subidentifiers.Given as goal

abbrev pub invariant-loop-rest : goal.invariant-loop-rest
invariant-loop-rest l = is_some (subidentifiers l.rest) ≡ is_some (subidentifiers l.contents)

abbrev pub decreases-loop-rest : goal.decreases-loop-rest
decreases-loop-rest l = length l.rest
