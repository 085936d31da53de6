-- Rules of the contents of extensions (RFC 5280, 4.2).
use Rattle.std.specs.Prelude.{Bool, List, None, not, refl, ◌++◌, ◌||◌}
use Rattle.std.specs.List.{list_any}
use Rattle.der_tree.specs.Codec.{Codec}
use Rattle.der_tree.specs.Grammar.{sequence_of}
use Rattle.der_tree.specs.PrimitiveTypes.{bit_string, integer, octet_string}
use Rattle.pkix_cert.specs.Constraints.{basic_constraints, name_constraints}
use Rattle.pkix_cert.specs.Distributions.{distribution_point}
use Rattle.pkix_cert.specs.ExtensionIds.{ce_authority_key_identifier, ce_basic_constraints, ce_certificate_policies, ce_crl_distribution_points, ce_ext_key_usage, ce_inhibit_any_policy, ce_issuer_alt_name, ce_key_usage, ce_name_constraints, ce_policy_constraints, ce_policy_mappings}
use Rattle.pkix_cert.specs.ExtensionIds.{ce_subject_alt_name, ce_subject_key_identifier, id_ce}
use Rattle.pkix_cert.specs.KeyIdentifiers.{authority_key_identifier}
use Rattle.pkix_cert.specs.declared.distribution.DistributionPoint.{DistributionPoint}
use Rattle.pkix_cert.specs.declared.extension.Extension.{Extension}
use Rattle.pkix_name.specs.GeneralNames.{general_name}
use Rattle.pkix_name.specs.declared.general_name.GeneralName.{GeneralName}
use Rattle.pkix_trust.specs.Accesses.{access_description}
use Rattle.pkix_trust.specs.Policies.{policy_constraints, policy_information, policy_mapping}
use Rattle.pkix_trust.specs.declared.access.AccessDescription.{AccessDescription}
use Rattle.pkix_trust.specs.declared.policy.PolicyInformation.{PolicyInformation}
use Rattle.pkix_trust.specs.declared.policy.PolicyMapping.{PolicyMapping}
use Rattle.strict_der.specs.Strict.{is_strict}
use Rattle.pkix_rules.specs.Extensions.{is_critical_stranger, is_unreadable}
use Rattle.pkix_rules.specs.Said.{ext_key_usage}
use Rattle.pkix_rules.specs.Identifiers.{known_extensions}
use Rattle.pkix_rules.specs.declared.identifiers.TheConstants.{AUTHORITY_INFO_ACCESS}
use Rattle.rule_table.specs.Found.{when}
use Rattle.rule_table.specs.declared.rule.Rule.{Rule}
use Rattle.rule_table.specs.declared.rule.Rule.TheVariants.{ExtensionNotDer, UnknownCriticalExtension, UnreadableExtension}

-- the types of extensions (RFC 5280, 4.2.1 and 4.2.2)
abbrev pub general_names : Codec (List GeneralName)
general_names = sequence_of general_name 0 None refl

abbrev pub crl_distribution_points : Codec (List DistributionPoint)
crl_distribution_points = sequence_of distribution_point 0 None refl

abbrev pub info_access : Codec (List AccessDescription)
info_access = sequence_of access_description 0 None refl

abbrev pub certificate_policies : Codec (List PolicyInformation)
certificate_policies = sequence_of policy_information 0 None refl

abbrev pub policy_mappings : Codec (List PolicyMapping)
policy_mappings = sequence_of policy_mapping 0 None refl

-- one is there, and its contents can't be read as the type of its identifier
abbrev pub has_unreadable_key_part : List Extension → Bool
has_unreadable_key_part es =
    is_unreadable basic_constraints (id_ce ce_basic_constraints) es || is_unreadable bit_string (id_ce ce_key_usage) es
    || is_unreadable ext_key_usage (id_ce ce_ext_key_usage) es || is_unreadable authority_key_identifier (id_ce ce_authority_key_identifier) es
    || is_unreadable octet_string (id_ce ce_subject_key_identifier) es

abbrev pub has_unreadable_name_part : List Extension → Bool
has_unreadable_name_part es =
    is_unreadable general_names (id_ce ce_subject_alt_name) es || is_unreadable name_constraints (id_ce ce_name_constraints) es
    || is_unreadable crl_distribution_points (id_ce ce_crl_distribution_points) es || is_unreadable info_access AUTHORITY_INFO_ACCESS.now es
    || is_unreadable general_names (id_ce ce_issuer_alt_name) es

abbrev pub has_unreadable_policy_part : List Extension → Bool
has_unreadable_policy_part es =
    is_unreadable certificate_policies (id_ce ce_certificate_policies) es || is_unreadable policy_mappings (id_ce ce_policy_mappings) es
    || is_unreadable policy_constraints (id_ce ce_policy_constraints) es || is_unreadable integer (id_ce ce_inhibit_any_policy) es

abbrev pub has_unreadable : List Extension → Bool
has_unreadable es = has_unreadable_key_part es || has_unreadable_name_part es || has_unreadable_policy_part es

-- its contents aren't strict DER
abbrev pub is_loose : Extension → Bool
is_loose e = not (is_strict e.extn_value)

unfoldable pub contents_rules : List Extension → List Rule
contents_rules es =
    when (has_unreadable es) UnreadableExtension
    ++ when (list_any is_loose es) ExtensionNotDer
    ++ when (list_any (is_critical_stranger known_extensions) es) UnknownCriticalExtension
