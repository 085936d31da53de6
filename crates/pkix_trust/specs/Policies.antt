-- Policies of certificates, a line for each field (RFC 5280, 4.2.1.4, 4.2.1.5 and 4.2.1.11).
use Rattle.std.specs.Prelude.{None, refl}
use Rattle.der_tree.specs.Codec.{Codec, Struct}
use Rattle.der_tree.specs.Grammar.{any, as_struct, implicitly, optional, required, sequence, sequence_of, ◌&◌, ◌⊗◌}
use Rattle.der_tree.specs.PrimitiveTypes.{generalized_time, integer, object_identifier}
use Rattle.der_tree.specs.Tags.{context, universal}
use Rattle.pkix_trust.specs.declared.policy.PolicyInformation.{PolicyInformation}
use Rattle.pkix_trust.specs.declared.policy.PolicyQualifierInfo.{PolicyQualifierInfo}
use Rattle.pkix_trust.specs.declared.policy.PolicyMapping.{PolicyMapping}
use Rattle.pkix_trust.specs.declared.policy.PolicyConstraints.{PolicyConstraints}
use Rattle.pkix_trust.specs.declared.policy.PrivateKeyUsagePeriod.{PrivateKeyUsagePeriod}

unfoldable pub policy_qualifier_info_fields : Struct PolicyQualifierInfo
policy_qualifier_info_fields = as_struct (
    required object_identifier
    & required any
    ) refl
    (λ v. v.id ⊗ v.qualifier)
    (λ id qualifier. record { id = id; qualifier = qualifier }) (λ v. refl) (λ f. refl)

abbrev pub policy_qualifier_info : Codec PolicyQualifierInfo
policy_qualifier_info = sequence (universal 16) policy_qualifier_info_fields

unfoldable pub policy_information_fields : Struct PolicyInformation
policy_information_fields = as_struct (
    required object_identifier
    & optional (sequence_of policy_qualifier_info 0 None refl)
    ) refl
    (λ v. v.policy_identifier ⊗ v.policy_qualifiers)
    (λ policy_identifier policy_qualifiers. record {
      policy_identifier = policy_identifier;
      policy_qualifiers = policy_qualifiers;
    }) (λ v. refl) (λ f. refl)

abbrev pub policy_information : Codec PolicyInformation
policy_information = sequence (universal 16) policy_information_fields

unfoldable pub policy_mapping_fields : Struct PolicyMapping
policy_mapping_fields = as_struct (
    required object_identifier
    & required object_identifier
    ) refl
    (λ v. v.issuer_domain_policy ⊗ v.subject_domain_policy)
    (λ issuer_domain_policy subject_domain_policy. record {
      issuer_domain_policy = issuer_domain_policy;
      subject_domain_policy = subject_domain_policy;
    })
    (λ v. refl) (λ f. refl)

abbrev pub policy_mapping : Codec PolicyMapping
policy_mapping = sequence (universal 16) policy_mapping_fields

unfoldable pub policy_constraints_fields : Struct PolicyConstraints
policy_constraints_fields = as_struct (
    optional (implicitly (context 0) integer refl)
    & optional (implicitly (context 1) integer refl)
    ) refl
    (λ v. v.require_explicit_policy ⊗ v.inhibit_policy_mapping)
    (λ require_explicit_policy inhibit_policy_mapping. record {
      require_explicit_policy = require_explicit_policy;
      inhibit_policy_mapping = inhibit_policy_mapping;
    }) (λ v. refl) (λ f. refl)

abbrev pub policy_constraints : Codec PolicyConstraints
policy_constraints = sequence (universal 16) policy_constraints_fields

unfoldable pub private_key_usage_period_fields : Struct PrivateKeyUsagePeriod
private_key_usage_period_fields = as_struct (
    optional (implicitly (context 0) generalized_time refl)
    & optional (implicitly (context 1) generalized_time refl)
    ) refl
    (λ v. v.not_before ⊗ v.not_after)
    (λ not_before not_after. record { not_before = not_before; not_after = not_after }) (λ v. refl) (λ f. refl)

abbrev pub private_key_usage_period : Codec PrivateKeyUsagePeriod
private_key_usage_period = sequence (universal 16) private_key_usage_period_fields
