use Rattle.std.proofs.Common.{◌≡◌, length}
use Rattle.extension_lookup.specs.Lookup.{has_equal_neighbours}
use Rattle.pkix_rules.proofs.entry.has_equal_neighbours.Given as goal

abbrev pub invariant-loop-rest : goal.invariant-loop-rest
invariant-loop-rest g l = has_equal_neighbours g.T.PartialEq.eq l.rest ≡ has_equal_neighbours g.T.PartialEq.eq l.values

abbrev pub decreases-loop-rest : goal.decreases-loop-rest
decreases-loop-rest g l = length l.rest
