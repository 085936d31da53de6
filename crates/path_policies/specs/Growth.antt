-- How many valid policies there are: what hostile certificates can make of them.
use Rattle.std.specs.Prelude.{Bool, List, None, Option, Some, length, ℕ, ◌+◌, ◌≤◌, [], ◌∷◌}
use Rattle.std.specs.List.{AllByRecursion, sum_by}
use Rattle.pkix_trust.specs.declared.policy.PolicyMapping.{PolicyMapping}
use Rattle.path_policies.specs.Levels.{Level, Levels, Node, first_levels, with_mappings, with_policies}
use Rattle.path_policies.specs.Policies.{Policy}

-- what a certificate says of policies, and what counts at it
pub record PolicyStep : Type 0 where
  pub policies : Option (List Policy)
  pub any_counts : Bool
  pub mappings : Option (List PolicyMapping)
  pub may_map : Bool

abbrev pub step_after : Levels → PolicyStep → Levels
step_after levels s = with_mappings (with_policies levels s.policies s.any_counts) s.mappings s.may_map

-- after some certificates, of which the last comes first
abbrev pub levels_behind : List PolicyStep → Levels
levels_behind [] = first_levels
levels_behind (s ∷ ss) = step_after (levels_behind ss) s

abbrev pub count_in : {A : Type 0} → Option (List A) → ℕ
count_in None = 0
count_in (Some xs) = length xs

-- 1, and one more for each policy that is named and each that is mapped
abbrev pub most_nodes : List PolicyStep → ℕ
most_nodes [] = 1
most_nodes (s ∷ ss) = most_nodes ss + count_in s.policies + count_in s.mappings

-- no level has more nodes
abbrev pub AreAtMost : ℕ → Levels → Type 0
AreAtMost n levels = AllByRecursion (λ level. length level ≤ n) levels

-- ---- how many policies the levels have

-- its own, those that it expects, and its parents
unfoldable pub node_size : Node → ℕ
node_size v = 1 + length v.expected_policy_set + length v.parents

unfoldable pub level_size : Level → ℕ
level_size level = sum_by node_size level

unfoldable pub levels_size : Levels → ℕ
levels_size levels = sum_by level_size levels
