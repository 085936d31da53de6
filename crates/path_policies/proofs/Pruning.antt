-- Levels that are pruned one after the other.
use Rattle.std.proofs.Common.{◌≡◌, List, ap, refl, [], ◌++◌, ◌∷◌}
use Rattle.path_policies.specs.Levels.{Level, Levels, parents_of, pruned_above, with_children}
use Rattle.path_policies.specs.Policies.{Policy}

-- the parents that the last of the levels leaves
abbrev pub parents_behind : List Policy → Levels → List Policy
parents_behind parents [] = parents
parents_behind parents (level ∷ levels) = parents_behind (parents_of (with_children parents level)) levels

pub pruned_more : (parents : List Policy) (levels : Levels) (level : Level)
    → pruned_above parents (levels ++ level ∷ []) ≡ pruned_above parents levels ++ with_children (parents_behind parents levels) level ∷ []
pruned_more parents [] level = refl
pruned_more parents (l ∷ levels) level = ap (λ (ls : Levels). with_children parents l ∷ ls) (pruned_more (parents_of (with_children parents l)) levels level)

pub parents_more : (parents : List Policy) (levels : Levels) (level : Level)
    → parents_behind parents (levels ++ level ∷ []) ≡ parents_of (with_children (parents_behind parents levels) level)
parents_more parents [] level = refl
parents_more parents (l ∷ levels) level = parents_more (parents_of (with_children parents l)) levels level
