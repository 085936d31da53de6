-- Rules of what the issuer's certificate has, of which nothing that it issues is free.
use Rattle.std.specs.Prelude.{Bool, List, None, Option, Some, false, not, ◌++◌, ◌||◌}
use Rattle.extension_lookup.specs.Lookup.{are_distinct}
use Rattle.pkix_cert.specs.ExtensionIds.{ce_certificate_policies, ce_ext_key_usage, ce_policy_mappings, id_ce}
use Rattle.pkix_cert.specs.declared.extension.Extension.{Extension}
use Rattle.pkix_trust.specs.declared.policy.PolicyInformation.{PolicyInformation}
use Rattle.pkix_rules.specs.Contents.{certificate_policies, policy_mappings}
use Rattle.pkix_rules.specs.Extensions.{is_unreadable, said}
use Rattle.pkix_rules.specs.Policies.{has_any_mapped, policy_ids}
use Rattle.pkix_rules.specs.Said.{ce_extension, ext_key_usage}
use Rattle.rule_table.specs.Found.{when}
use Rattle.rule_table.specs.declared.rule.Rule.{Rule}
use Rattle.rule_table.specs.declared.rule.Rule.TheVariants.{IssuerPolicies, IssuerPurposes}

abbrev pub has_policy_twice : Option (List PolicyInformation) → Bool
has_policy_twice None = false
has_policy_twice (Some policies) = not (are_distinct (policy_ids policies))

-- no path through it is valid: anyPolicy is mapped (RFC 5280, 6.1.4 (a)), or a policy is there twice (RFC 5280, 4.2.1.4)
abbrev pub has_bad_policies : List Extension → Bool
has_bad_policies es =
    has_any_mapped (said policy_mappings (ce_extension ce_policy_mappings es))
    || has_policy_twice (said certificate_policies (ce_extension ce_certificate_policies es))

unfoldable pub issuer_extension_rules : List Extension → List Rule
issuer_extension_rules es =
    when (has_bad_policies es) IssuerPolicies
    ++ when (is_unreadable ext_key_usage (id_ce ce_ext_key_usage) es) IssuerPurposes
