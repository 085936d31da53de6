-- Rules of which extensions are critical (RFC 5280, 4.2.1 and 4.2.2).
use Rattle.std.specs.Prelude.{Bool, List, ◌&&◌, ◌++◌}
use Rattle.pkix_cert.specs.ExtensionIds.{ce_authority_key_identifier, ce_basic_constraints, ce_crl_distribution_points, ce_freshest_crl, ce_inhibit_any_policy, ce_issuer_alt_name, ce_key_usage, ce_name_constraints, ce_policy_constraints}
use Rattle.pkix_cert.specs.ExtensionIds.{ce_policy_mappings, ce_subject_alt_name, ce_subject_key_identifier, id_ce}
use Rattle.pkix_cert.specs.declared.extension.Extension.{Extension}
use Rattle.pkix_rules.specs.Extensions.{has_critical, has_uncritical}
use Rattle.pkix_rules.specs.declared.identifiers.TheConstants.{AUTHORITY_INFO_ACCESS, SUBJECT_DIRECTORY_ATTRIBUTES, SUBJECT_INFO_ACCESS}
use Rattle.rule_table.specs.Found.{when}
use Rattle.rule_table.specs.declared.rule.Rule.{Rule}
use Rattle.rule_table.specs.declared.rule.Rule.TheVariants.{CriticalAltNames, CriticalAuthorityInfoAccess, CriticalAuthorityKeyId, CriticalCrlPoints, CriticalDirectoryAttributes, CriticalFreshestCrl, CriticalIssuerAltNames}
use Rattle.rule_table.specs.declared.rule.Rule.TheVariants.{CriticalSubjectInfoAccess, CriticalSubjectKeyId, UncriticalBasicConstraints, UncriticalInhibitAnyPolicy, UncriticalKeyUsage, UncriticalNameConstraints, UncriticalPolicyConstraints}
use Rattle.rule_table.specs.declared.rule.Rule.TheVariants.{UncriticalPolicyMappings}

unfoldable pub identity_rules : List Extension → List Rule
identity_rules es =
    when (has_critical (id_ce ce_authority_key_identifier) es) CriticalAuthorityKeyId
    ++ when (has_critical (id_ce ce_subject_key_identifier) es) CriticalSubjectKeyId
    ++ when (has_uncritical (id_ce ce_key_usage) es) UncriticalKeyUsage

unfoldable pub name_rules : List Extension → Bool → List Rule
name_rules es has_subject =
    when (has_subject && has_critical (id_ce ce_subject_alt_name) es) CriticalAltNames
    ++ when (has_critical (id_ce ce_issuer_alt_name) es) CriticalIssuerAltNames
    ++ when (has_critical SUBJECT_DIRECTORY_ATTRIBUTES.now es) CriticalDirectoryAttributes

unfoldable pub path_rules : List Extension → Bool → List Rule
path_rules es is_ca =
    when (is_ca && has_uncritical (id_ce ce_basic_constraints) es) UncriticalBasicConstraints
    ++ when (has_uncritical (id_ce ce_name_constraints) es) UncriticalNameConstraints
    ++ when (has_uncritical (id_ce ce_policy_mappings) es) UncriticalPolicyMappings
    ++ when (has_uncritical (id_ce ce_policy_constraints) es) UncriticalPolicyConstraints
    ++ when (has_uncritical (id_ce ce_inhibit_any_policy) es) UncriticalInhibitAnyPolicy

unfoldable pub pointer_rules : List Extension → List Rule
pointer_rules es =
    when (has_critical (id_ce ce_crl_distribution_points) es) CriticalCrlPoints
    ++ when (has_critical (id_ce ce_freshest_crl) es) CriticalFreshestCrl
    ++ when (has_critical AUTHORITY_INFO_ACCESS.now es) CriticalAuthorityInfoAccess
    ++ when (has_critical SUBJECT_INFO_ACCESS.now es) CriticalSubjectInfoAccess

-- of a subject that has a name or not, and is an authority or not
unfoldable pub criticality_rules : List Extension → Bool → Bool → List Rule
criticality_rules es has_subject is_ca = identity_rules es ++ name_rules es has_subject ++ path_rules es is_ca ++ pointer_rules es
