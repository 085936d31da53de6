use Rattle.std.proofs.Common.{Bor, List, ap, ◌∙◌, ℕ}
use Rattle.std.specs.Str.{bytes_eq}
use Rattle.extension_lookup.specs.Lookup.{has_equal_neighbours}
use Rattle.extension_lookup.proofs.Distinct.{by_slices}
use Rattle.extension_lookup.proofs.lookup.are_distinct.Goals as goal

pub returns : goal.returns
returns c =
    by_slices c.in_ok-ids.ids.items c.sort_unstable.new.self.items _ _ c.in_ok-ids.ensures c.sort_unstable.ensures.permutation c.sort_unstable.ensures.sorted
    (c.has_equal_neighbours.ensures ∙ ap (λ (ids : List (Bor (List ℕ))). has_equal_neighbours (λ a b. bytes_eq a.now b.now) ids) c.as_slice.ensures.value)
