-- The state variables of a validation, and what each certificate makes of them (RFC 5280, 6.1.2 to 6.1.5).
use Rattle.std.specs.Prelude.{Bool, List, None, Option, Some, cond, map, min, nat_lt, not, ℕ, ◌&&◌, ◌||◌, ◌+◌, ◌-◌, [], ◌++◌, ◌==◌, ◌∷◌}
use Rattle.std.specs.Option.{option_map}
use Rattle.asn1_core.specs.Twos.{is_negative, number}
use Rattle.pkix_cert.specs.declared.constraint.GeneralSubtree.{GeneralSubtree}
use Rattle.path_policies.specs.Levels.{first_levels, with_mappings, with_policies}
use Rattle.path_policies.specs.Policies.{Policy}
use Rattle.path_validation.specs.Certificates.{is_self_issued}
use Rattle.path_validation.specs.Keys.{key_after}
use Rattle.path_validation.specs.Statements.{excluded_of, inhibit_policy_mapping, path_len_constraint, permitted_of, require_explicit_policy}
use Rattle.path_validation.specs.declared.certificate.PathCertificate.{PathCertificate}
use Rattle.path_validation.specs.declared.inputs.PathInputs.{PathInputs}
use Rattle.path_validation.specs.declared.state.State.{State}
use Rattle.path_validation.specs.declared.statements.PolicyStatements.{PolicyStatements}

-- (d), (e), (f): none where it is asked for from the beginning, and more than the path has else
abbrev pub unless_asked : Bool → ℕ → ℕ
unless_asked asked count = cond asked 0 (count + 1)

-- 6.1.2, of a path of so many certificates
unfoldable pub first_state : PathInputs → ℕ → State
first_state x count = record {
  valid_policy_levels = first_levels;
  permitted_subtrees = x.initial_permitted_subtrees ∷ [];
  excluded_subtrees = x.initial_excluded_subtrees ∷ [];
  explicit_policy = unless_asked x.initial_explicit_policy count;
  inhibit_any_policy = unless_asked x.initial_any_policy_inhibit count;
  policy_mapping = unless_asked x.initial_policy_mapping_inhibit count;
  working_public_key = x.anchor.key_info;
  working_issuer_name = x.anchor.name;
  max_path_length = count;
}

-- ---- 6.1.3 (d) and (e)

abbrev pub policies_named : PolicyStatements → Option (List Policy)
policies_named said = option_map (λ ps. map (λ p. p.policy_identifier) ps) said.policies

-- (d) (2): anyPolicy counts while it isn't inhibited, and in each self-issued certificate but the last
abbrev pub any_counts : State → Bool → PathCertificate → Bool
any_counts s is_last c = nat_lt 0 s.inhibit_any_policy || (not is_last && is_self_issued c.identity)

unfoldable pub with_policies_of : State → Bool → PathCertificate → State
with_policies_of s is_last c = record s {
  valid_policy_levels = with_policies s.valid_policy_levels (policies_named c.statements.policies) (any_counts s is_last c);
}

-- ---- 6.1.4 (g): name constraints

-- (1) and (2): one more set
abbrev pub with_set : List (List GeneralSubtree) → Option (List GeneralSubtree) → List (List GeneralSubtree)
with_set sets None = sets
with_set sets (Some ts) = sets ++ ts ∷ []

-- ---- 6.1.4 (h) to (j), (l) and (m): counters

-- (h), (l): one less, unless it is 0 or the certificate is self-issued
abbrev pub counted : Bool → ℕ → ℕ
counted self_issued n = cond self_issued n (n - 1)

-- (i), (j), (m): the number that is stated, where it is less; one below 0, as no extension that is read states it, is 0
abbrev pub stated_number : List ℕ → ℕ
stated_number octets = cond (is_negative octets) 0 (number octets)

abbrev pub lowered : Option (List ℕ) → ℕ → ℕ
lowered None n = n
lowered (Some octets) n = min (stated_number octets) n

-- ---- 6.1.4: before the next certificate, of the state after 6.1.3

unfoldable pub next_state : State → PathCertificate → State
next_state s c = record {
  valid_policy_levels = with_mappings s.valid_policy_levels c.statements.policies.mappings (nat_lt 0 s.policy_mapping);  -- (b)
  permitted_subtrees = with_set s.permitted_subtrees (permitted_of c.statements.names.name_constraints);  -- (g) (1)
  excluded_subtrees = with_set s.excluded_subtrees (excluded_of c.statements.names.name_constraints);  -- (g) (2)
  explicit_policy = lowered (require_explicit_policy c.statements.policies.constraints) (counted (is_self_issued c.identity) s.explicit_policy);  -- (h) (1), (i) (1)
  inhibit_any_policy = lowered c.statements.policies.inhibit_any_policy (counted (is_self_issued c.identity) s.inhibit_any_policy);  -- (h) (3), (j)
  policy_mapping = lowered (inhibit_policy_mapping c.statements.policies.constraints) (counted (is_self_issued c.identity) s.policy_mapping);  -- (h) (2), (i) (2)
  working_public_key = key_after s.working_public_key c.identity.key_info;  -- (d), (e), (f)
  working_issuer_name = c.identity.subject;  -- (c)
  max_path_length = lowered (path_len_constraint c.statements.ca.basic_constraints) (counted (is_self_issued c.identity) s.max_path_length);  -- (l), (m)
}

-- ---- 6.1.5 (a) and (b): after the last certificate

unfoldable pub last_explicit_policy : PathCertificate → ℕ → ℕ
last_explicit_policy c n = cond (lowered (require_explicit_policy c.statements.policies.constraints) 1 == 0) 0 (n - 1)
