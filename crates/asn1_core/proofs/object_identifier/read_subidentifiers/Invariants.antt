use Rattle.std.proofs.Common.{◌≡◌, length}
use Rattle.asn1_core.specs.ObjectIdentifiers.{behind, subidentifiers}
use Rattle.asn1_core.proofs.object_identifier.read_subidentifiers.Given as goal

abbrev pub invariant-loop-rest : goal.invariant-loop-rest
invariant-loop-rest l = behind l.arcs.items (subidentifiers l.rest) ≡ behind l.fn.arcs.items (subidentifiers l.contents)

abbrev pub decreases-loop-rest : goal.decreases-loop-rest
decreases-loop-rest l = length l.rest
