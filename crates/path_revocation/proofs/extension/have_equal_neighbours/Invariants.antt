use Rattle.std.proofs.Common.{◌≡◌, Bor, List, length, map, ℕ}
use Rattle.extension_lookup.specs.Lookup.{have_equal_neighbours}
use Rattle.path_revocation.proofs.extension.have_equal_neighbours.Given as goal

abbrev pub invariant-loop-rest : goal.invariant-loop-rest
invariant-loop-rest l =
    have_equal_neighbours (map (λ (arcs : Bor (List ℕ)). arcs.now) l.rest)
    ≡ have_equal_neighbours (map (λ (arcs : Bor (List ℕ)). arcs.now) l.all)

abbrev pub decreases-loop-rest : goal.decreases-loop-rest
decreases-loop-rest l = length l.rest
