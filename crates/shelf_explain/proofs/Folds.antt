-- A text that is folded octet by octet.
use Rattle.std.proofs.Common.{◌≡◌, ◌++◌, ℕ, ◌+◌, ◌<◌, List, [], ◌∷◌, drop, length, ap, refl, sym, ◌∙◌}
use Rattle.std.proofs.lemmas.List.{append_assoc, append-nil, drop_more, drop_all}
use Rattle.std.proofs.Math.ListN.{get_or}
use Rattle.shelf_explain.specs.Folding.{folded_from, next_column, piece}

pub at_octet : (column octet : ℕ) (octets : List ℕ) → folded_from column (octet ∷ octets) ≡ piece column octet ++ folded_from (next_column column octet) octets
unfolding folded_from
at_octet column octet octets = refl

pub at_end : (column : ℕ) (octets : List ℕ) → octets ≡ [] → folded_from column octets ≡ []
unfolding folded_from
at_end column octets e = ap (folded_from column) e

pub ruleset folding = (at_octet, at_end, drop_more, drop_all, append_assoc, append-nil)
