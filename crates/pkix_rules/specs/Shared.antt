-- The rules that certificates and what requests ask for have in common: of the subject, its key and its extensions.
use Rattle.std.specs.Prelude.{List, not, ◌&&◌, ◌++◌}
use Rattle.der_tree.specs.PrimitiveTypes.{integer}
use Rattle.pkix_cert.specs.Constraints.{name_constraints}
use Rattle.pkix_cert.specs.ExtensionIds.{ce_certificate_policies, ce_crl_distribution_points, ce_inhibit_any_policy, ce_name_constraints, ce_policy_constraints, ce_policy_mappings, ce_subject_alt_name}
use Rattle.pkix_cert.specs.declared.algorithm.SubjectPublicKeyInfo.{SubjectPublicKeyInfo}
use Rattle.pkix_cert.specs.declared.extension.Extension.{Extension}
use Rattle.pkix_name.specs.declared.name.Name.{Name}
use Rattle.pkix_trust.specs.Policies.{policy_constraints}
use Rattle.pkix_rules.specs.AltNames.{alt_name_rules}
use Rattle.pkix_rules.specs.Contents.{certificate_policies, contents_rules, crl_distribution_points, general_names, info_access, policy_mappings}
use Rattle.pkix_rules.specs.Criticality.{criticality_rules}
use Rattle.pkix_rules.specs.Extensions.{extension_at, said}
use Rattle.pkix_rules.specs.Keys.{key_rules, kind_of}
use Rattle.pkix_rules.specs.NameConstraints.{name_constraint_rules}
use Rattle.pkix_rules.specs.Names.{is_empty_name}
use Rattle.pkix_rules.specs.Points.{access_rules, point_rules}
use Rattle.pkix_rules.specs.Policies.{is_below_zero, policy_bound_rules, policy_list_rules}
use Rattle.pkix_rules.specs.Said.{ce_extension, has_path_length, has_usage, is_authority, key_cert_sign, path_length_in}
use Rattle.pkix_rules.specs.Subjects.{subject_rules}
use Rattle.pkix_rules.specs.Usages.{purpose_rules, usage_of_key_rules, usage_rules}
use Rattle.pkix_rules.specs.declared.identifiers.TheConstants.{AUTHORITY_INFO_ACCESS}
use Rattle.pkix_rules.specs.declared.said.Said.{Said}
use Rattle.rule_table.specs.Found.{when}
use Rattle.rule_table.specs.declared.rule.Rule.{Rule}
use Rattle.rule_table.specs.declared.rule.Rule.TheVariants.{PathLengthNegative, PathLengthWithoutCertSign}

-- pathLenConstraint INTEGER (0..MAX), of keys that sign certificates (RFC 5280, 4.2.1.9)
unfoldable pub path_rules : Said → List Rule
path_rules s =
    when (is_below_zero (path_length_in s.constraints)) PathLengthNegative
    ++ when (has_path_length s.constraints && not (has_usage key_cert_sign s.key_usage)) PathLengthWithoutCertSign

unfoldable pub name_value_rules : List Extension → List Rule
name_value_rules es =
    alt_name_rules (said general_names (ce_extension ce_subject_alt_name es))
    ++ name_constraint_rules (said name_constraints (ce_extension ce_name_constraints es))

unfoldable pub policy_value_rules : List Extension → List Rule
policy_value_rules es =
    policy_list_rules (said certificate_policies (ce_extension ce_certificate_policies es))
    ++ policy_bound_rules (said policy_mappings (ce_extension ce_policy_mappings es))
    (said policy_constraints (ce_extension ce_policy_constraints es)) (said integer (ce_extension ce_inhibit_any_policy es))

unfoldable pub pointer_value_rules : List Extension → List Rule
pointer_value_rules es =
    point_rules (said crl_distribution_points (ce_extension ce_crl_distribution_points es))
    ++ access_rules (said info_access (extension_at AUTHORITY_INFO_ACCESS.now es))

unfoldable pub value_rules : List Extension → List Rule
value_rules es = name_value_rules es ++ policy_value_rules es ++ pointer_value_rules es

unfoldable pub usage_value_rules : List Extension → Said → SubjectPublicKeyInfo → List Rule
usage_value_rules es s k =
    path_rules s ++ usage_rules s.key_usage ++ usage_of_key_rules s.key_usage (kind_of k.algorithm.algorithm) ++ purpose_rules es s

unfoldable pub shared_rules : Name → List Extension → Said → SubjectPublicKeyInfo → List Rule
shared_rules subject es s k =
    subject_rules subject es s
    ++ key_rules k
    ++ contents_rules es
    ++ criticality_rules es (not (is_empty_name subject)) (is_authority s.constraints)
    ++ usage_value_rules es s k
    ++ value_rules es
