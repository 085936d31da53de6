use Rattle.std.proofs.Common.{Bor, List, ap, refl, ◌∙◌, ℕ}
use Rattle.std.specs.Str.{bytes_eq}
use Rattle.extension_lookup.specs.Lookup.{has_equal_neighbours}
use Rattle.extension_lookup.proofs.Distinct.{by_slices}
use Rattle.pkix_rules.proofs.entry.are_distinct_octets.Goals as goal

pub returns : goal.returns
returns c =
    by_slices c.args.octets.items c.sort_unstable.new.self.items _ _ refl c.sort_unstable.ensures.permutation c.sort_unstable.ensures.sorted
    (c.has_equal_neighbours.ensures ∙ ap (λ (octets : List (Bor (List ℕ))). has_equal_neighbours (λ a b. bytes_eq a.now b.now) octets) c.as_slice.ensures.value)
