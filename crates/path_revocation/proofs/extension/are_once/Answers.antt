use Rattle.std.proofs.Common.{Bor, List, ap, map, ◌∙◌, ℕ}
use Rattle.extension_lookup.specs.Lookup.{have_equal_neighbours}
use Rattle.extension_lookup.proofs.Distinct.{by_neighbours}
use Rattle.path_revocation.specs.Extensions.{are_once}
use Rattle.path_revocation.proofs.extension.are_once.Goals as goal

pub returns : goal.returns
unfolding are_once
returns c =
    by_neighbours c.in_ok-ids.ids.items c.sort_unstable.new.self.items _ _ c.in_ok-ids.ensures c.sort_unstable.ensures.permutation c.sort_unstable.ensures.sorted
    (c.have_equal_neighbours.ensures ∙ ap (λ (all : List (Bor (List ℕ))). have_equal_neighbours (map (λ (arcs : Bor
    (List ℕ)). arcs.now) all)) c.as_slice.ensures.value)
