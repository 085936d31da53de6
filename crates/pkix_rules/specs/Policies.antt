-- Rules of policies (RFC 5280, 4.2.1.4, 4.2.1.5, 4.2.1.11 and 4.2.1.14).
use Rattle.std.specs.Prelude.{Bool, List, None, Option, Some, [], false, is_some, length, map, not, ℕ, ◌&&◌, ◌++◌, ◌==◌, ◌||◌}
use Rattle.std.specs.List.{list_any}
use Rattle.asn1_core.specs.Twos.{is_negative}
use Rattle.extension_lookup.specs.Lookup.{are_distinct}
use Rattle.pkix_trust.specs.declared.policy.PolicyConstraints.{PolicyConstraints}
use Rattle.pkix_trust.specs.declared.policy.PolicyInformation.{PolicyInformation}
use Rattle.pkix_trust.specs.declared.policy.PolicyMapping.{PolicyMapping}
use Rattle.pkix_rules.specs.Extensions.{same_id}
use Rattle.pkix_rules.specs.declared.identifiers.TheConstants.{ANY_POLICY}
use Rattle.rule_table.specs.Found.{when}
use Rattle.rule_table.specs.declared.rule.Rule.{Rule}
use Rattle.rule_table.specs.declared.rule.Rule.TheVariants.{AnyPolicyMapped, EmptyPolicies, EmptyPolicyConstraints, NegativeSkipCerts, PolicyTwice}

abbrev pub policy_ids : List PolicyInformation → List (List ℕ)
policy_ids policies = map (λ p. p.policy_identifier) policies

unfoldable pub policy_list_rules : Option (List PolicyInformation) → List Rule
policy_list_rules None = []
policy_list_rules (Some policies) =
    when (length policies == 0) EmptyPolicies
    ++ when (not (are_distinct (policy_ids policies))) PolicyTwice

-- anyPolicy is mapped, or mapped to (4.2.1.5)
abbrev pub maps_any : PolicyMapping → Bool
maps_any m = same_id m.issuer_domain_policy ANY_POLICY.now || same_id m.subject_domain_policy ANY_POLICY.now

abbrev pub has_any_mapped : Option (List PolicyMapping) → Bool
has_any_mapped None = false
has_any_mapped (Some mappings) = list_any maps_any mappings

-- SkipCerts ::= INTEGER (0..MAX)
abbrev pub is_below_zero : Option (List ℕ) → Bool
is_below_zero None = false
is_below_zero (Some n) = is_negative n

-- neither of the two numbers (4.2.1.11)
abbrev pub lacks_numbers : Option PolicyConstraints → Bool
lacks_numbers None = false
lacks_numbers (Some c) = not (is_some c.require_explicit_policy) && not (is_some c.inhibit_policy_mapping)

abbrev pub has_number_below_zero : Option PolicyConstraints → Bool
has_number_below_zero None = false
has_number_below_zero (Some c) = is_below_zero c.require_explicit_policy || is_below_zero c.inhibit_policy_mapping

unfoldable pub policy_bound_rules : Option (List PolicyMapping) → Option PolicyConstraints → Option (List ℕ) → List Rule
policy_bound_rules mappings constraints inhibit_any =
    when (has_any_mapped mappings) AnyPolicyMapped
    ++ when (lacks_numbers constraints) EmptyPolicyConstraints
    ++ when (has_number_below_zero constraints || is_below_zero inhibit_any) NegativeSkipCerts
