-- Policies of certificates (RFC 5280, 4.2.1.4), by their identifiers.
use Rattle.std.specs.Prelude.{Bool, List, filter, nat_eq, not, ℕ, [], ◌∷◌}
use Rattle.std.specs.Cmp.Lexicographic.{pointwise}
use Rattle.std.specs.List.{list_any}

-- the arcs of its identifier
abbrev pub Policy : Type 0
Policy = List ℕ

-- arc by arc
abbrev pub same_policy : Policy → Policy → Bool
same_policy = pointwise nat_eq

-- 2.5.29.32.0
abbrev pub any_policy : Policy
any_policy = 2 ∷ 5 ∷ 29 ∷ 32 ∷ 0 ∷ []

abbrev pub is_any : Policy → Bool
is_any p = same_policy p any_policy

abbrev pub is_among : Policy → List Policy → Bool
is_among p ps = list_any (λ q. same_policy q p) ps

-- each once, where it occurs first
abbrev pub each_once : List Policy → List Policy
each_once [] = []
each_once (p ∷ ps) = p ∷ filter (λ q. not (same_policy p q)) (each_once ps)
