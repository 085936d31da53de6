use Rattle.std.proofs.Common.{◌≡◌, ◌^◌, length}
use Rattle.asn1_core.specs.Arcs.{are_below}
use Rattle.asn1_core.proofs.object_identifier.are_small.Given as goal

abbrev pub invariant-loop-rest : goal.invariant-loop-rest
invariant-loop-rest l = are_below (2 ^ 32) l.rest ≡ are_below (2 ^ 32) l.arcs

abbrev pub decreases-loop-rest : goal.decreases-loop-rest
decreases-loop-rest l = length l.rest
