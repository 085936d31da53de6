use Rattle.std.proofs.Common.{◌≡◌, ◌^◌, ◌++◌, true, length}
use Rattle.asn1_core.specs.Arcs.{are_below}
use Rattle.asn1_core.proofs.object_identifier.push_small.Given as goal

abbrev pub invariant-loop-rest : goal.invariant-loop-rest
invariant-loop-rest l = (are_below (2 ^ 32) l.rest ≡ true) × (l.small.items ++ l.rest ≡ l.initial.small.items ++ l.arcs)

abbrev pub decreases-loop-rest : goal.decreases-loop-rest
decreases-loop-rest l = length l.rest
