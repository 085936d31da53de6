-- The valid policies of a path (RFC 5280, 6.1.2 (a), 6.1.3 (d) and (e), 6.1.4 (a) and (b), 6.1.5 (g), as RFC 9618 has them).
-- RFC 5280's tree may have one policy in many nodes of one depth, each with the same expected policies and the same children below it, and mappings double their number at each
-- certificate. RFC 9618's graph has one node for them, with all their parents. Qualifiers are left out, since nothing is decided by them.
use Rattle.std.specs.Prelude.{Bool, List, None, Option, Some, cond, false, filter, length, map, not, true, ◌&&◌, ◌||◌, [], ◌++◌, ◌==◌, ◌∷◌}
use Rattle.std.specs.List.{filter_map, flat_map, list_any}
use Rattle.pkix_trust.specs.declared.policy.PolicyMapping.{PolicyMapping}
use Rattle.path_policies.specs.Policies.{Policy, any_policy, each_once, is_among, is_any, same_policy}

-- no two nodes of one depth have one valid policy, so a parent is named by its own
pub record Node : Type 0 where
  pub valid_policy : Policy
  pub expected_policy_set : List Policy
  pub parents : List Policy

-- the nodes of one depth
abbrev pub Level : Type 0
Level = List Node

-- the deepest first, the one node of depth 0 last; NULL is none at all
abbrev pub Levels : Type 0
Levels = List Level

-- 6.1.2 (a)
abbrev pub first_levels : Levels
first_levels = (record { valid_policy = any_policy; expected_policy_set = any_policy ∷ []; parents = [] } ∷ []) ∷ []

abbrev pub is_null : Levels → Bool
is_null [] = true
is_null (level ∷ levels) = false

abbrev pub valid_policies : Level → List Policy
valid_policies level = map (λ v. v.valid_policy) level

abbrev pub has_policy : Policy → Level → Bool
has_policy p level = list_any (λ v. same_policy v.valid_policy p) level

-- ---- 6.1.3 (d): a certificate's policies

abbrev pub expects : Policy → Node → Bool
expects p v = is_among p v.expected_policy_set

-- the nodes that expect it
abbrev pub expecting : Policy → Level → List Policy
expecting p above = valid_policies (filter (expects p) above)

abbrev pub child : Policy → List Policy → Node
child p parents = record { valid_policy = p; expected_policy_set = p ∷ []; parents = parents }

-- (1) (ii): below anyPolicy, where no node expects it
abbrev pub below_any : Level → Policy → Option Node
below_any above p = cond (has_policy any_policy above) (Some (child p (any_policy ∷ []))) None

-- (1) (i): below the nodes that expect it
abbrev pub below_these : Level → Policy → List Policy → Option Node
below_these above p [] = below_any above p
below_these above p (v ∷ vs) = Some (child p (v ∷ vs))

-- (1): the node of a policy other than anyPolicy
unfoldable pub named_node : Level → Policy → Option Node
named_node above p = cond (is_any p) None (below_these above p (expecting p above))

abbrev pub named_nodes : Level → List Policy → Level
named_nodes above ps = filter_map (named_node above) ps

unfoldable pub expected_policies : Level → List Policy
expected_policies above = each_once (flat_map (λ v. v.expected_policy_set) above)

abbrev pub expected_child : Level → Policy → Node
expected_child above p = child p (expecting p above)

-- (2): where anyPolicy counts, each policy that is expected and isn't there yet
unfoldable pub any_nodes : Level → Level → Level
any_nodes above named = map (expected_child above) (filter (λ p. not (has_policy p named)) (expected_policies above))

unfoldable pub next_level : Level → List Policy → Bool → Level
next_level above ps any_counts =
    named_nodes above ps ++ cond (any_counts && is_among any_policy ps) (any_nodes above (named_nodes above ps)) []

-- (3): what has no child is deleted, from the deepest level up
abbrev pub with_children : List Policy → Level → Level
with_children parents level = filter (λ v. is_among v.valid_policy parents) level

abbrev pub parents_of : Level → List Policy
parents_of level = flat_map (λ v. v.parents) level

abbrev pub pruned_above : List Policy → Levels → Levels
pruned_above parents [] = []
pruned_above parents (level ∷ levels) = with_children parents level ∷ pruned_above (parents_of (with_children parents level)) levels

-- NULL where the deepest level is empty: all nodes are then without children, one after the other
unfoldable pub pruned : Level → Levels → Levels
pruned [] levels = []
pruned (v ∷ vs) levels = (v ∷ vs) ∷ pruned_above (parents_of (v ∷ vs)) levels

-- (d), and (e): NULL where the certificate has no such extension
abbrev pub with_policies : Levels → Option (List Policy) → Bool → Levels
with_policies [] ps any_counts = []
with_policies (above ∷ levels) None any_counts = []
with_policies (above ∷ levels) (Some ps) any_counts = pruned (next_level above ps any_counts) (above ∷ levels)

-- ---- 6.1.4 (a) and (b): a certificate's mappings

-- (a)
abbrev pub maps_any : List PolicyMapping → Bool
maps_any ms = list_any (λ m. is_any m.issuer_domain_policy || is_any m.subject_domain_policy) ms

abbrev pub is_mapped : List PolicyMapping → Policy → Bool
is_mapped ms p = list_any (λ m. same_policy m.issuer_domain_policy p) ms

-- the subject domain policies that are equivalent to it
unfoldable pub equivalents : List PolicyMapping → Policy → List Policy
equivalents ms p = each_once (map (λ m. m.subject_domain_policy) (filter (λ m. same_policy m.issuer_domain_policy p) ms))

-- (b) (1): a node that is there expects the equivalents
unfoldable pub mapped_node : List PolicyMapping → Node → Node
mapped_node ms v =
    cond (is_mapped ms v.valid_policy) (record { valid_policy = v.valid_policy; expected_policy_set = equivalents ms v.valid_policy; parents = v.parents }) v

abbrev pub generated_node : List PolicyMapping → Policy → Node
generated_node ms p = record { valid_policy = p; expected_policy_set = equivalents ms p; parents = any_policy ∷ [] }

unfoldable pub issuer_domain_policies : List PolicyMapping → List Policy
issuer_domain_policies ms = each_once (map (λ m. m.issuer_domain_policy) ms)

-- (b) (1): one that isn't there is generated, where anyPolicy is
unfoldable pub generated : List PolicyMapping → Level → Level
generated ms level =
    cond (has_policy any_policy level) (map (generated_node ms) (filter (λ p. not (has_policy p level)) (issuer_domain_policies ms))) []

-- (b) (2): where mapping is inhibited, what is mapped is deleted
abbrev pub unmapped : List PolicyMapping → Level → Level
unmapped ms level = filter (λ v. not (is_mapped ms v.valid_policy)) level

abbrev pub mapped : List PolicyMapping → Level → Level
mapped ms level = map (mapped_node ms) level ++ generated ms level

abbrev pub mapped_level : List PolicyMapping → Bool → Level → Level
mapped_level ms may_map level = cond may_map (mapped ms level) (unmapped ms level)

abbrev pub with_mappings : Levels → Option (List PolicyMapping) → Bool → Levels
with_mappings levels None may_map = levels
with_mappings [] (Some ms) may_map = []
with_mappings (level ∷ levels) (Some ms) may_map = pruned (mapped_level ms may_map level) levels

-- ---- 6.1.5 (g): what is left

-- another policy, and anyPolicy is its one parent
abbrev pub is_root : Node → Bool
is_root v = not (is_any v.valid_policy) && ((length v.parents == 1) && is_among any_policy v.parents)

abbrev pub roots_of : Level → List Policy
roots_of level = valid_policies (filter is_root level)

-- anyPolicy, where it is left at depth n
abbrev pub any_left : Levels → List Policy
any_left [] = []
any_left (level ∷ levels) = cond (has_policy any_policy level) (any_policy ∷ []) []

-- (iii) 1: the policies of the valid policy node set
unfoldable pub authority_constrained : Levels → List Policy
authority_constrained levels = each_once (any_left levels ++ flat_map roots_of levels)

-- (iii) 2: those of the user's; 3: and where anyPolicy is left at depth n, all of the user's
unfoldable pub of_user : List Policy → List Policy → List Policy
of_user users ps = filter (λ p. is_among p users) ps ++ cond (is_among any_policy ps) (filter (λ p. not (is_among p ps)) users) []

-- (i) and (ii), where the user's set is any-policy
abbrev pub user_constrained : Option (List Policy) → Levels → List Policy
user_constrained None levels = authority_constrained levels
user_constrained (Some users) levels = of_user users (authority_constrained levels)
