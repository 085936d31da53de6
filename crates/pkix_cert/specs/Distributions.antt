-- Where lists of revoked certificates are found, a line for each field (RFC 5280, 4.2.1.13 and 5.2).
use Rattle.std.specs.Prelude.{◌≡◌, ◌⊎◌, false, List, None, refl}
use Rattle.std.proofs.Common.{inl, inr}
use Rattle.der_tree.specs.Codec.{Codec, Struct}
use Rattle.der_tree.specs.Grammar.{as_choice, as_struct, beq, beq_exact, either, explicitly, implicitly, optional, sequence, sequence_of, with_default, ◌&◌}
use Rattle.der_tree.specs.Grammar.{◌⊗◌}
use Rattle.der_tree.specs.PrimitiveTypes.{bit_string, boolean}
use Rattle.der_tree.specs.Tags.{context, universal}
use Rattle.pkix_name.specs.Names.{relative_distinguished_name}
use Rattle.pkix_name.specs.declared.name.RelativeDistinguishedName.{RelativeDistinguishedName}
use Rattle.pkix_name.specs.GeneralNames.{general_name}
use Rattle.pkix_name.specs.declared.general_name.GeneralName.{GeneralName}
use Rattle.pkix_cert.specs.declared.distribution.DistributionPoint.{DistributionPoint}
use Rattle.pkix_cert.specs.declared.distribution.DistributionPointName.{DistributionPointName}
use Rattle.pkix_cert.specs.declared.distribution.IssuingDistributionPoint.{IssuingDistributionPoint}
use Rattle.pkix_cert.specs.declared.distribution.DistributionPointName.TheVariants.{FullName, NameRelativeToCrlIssuer}

abbrev pub distribution_point_name_parts : DistributionPointName → List GeneralName ⊎ RelativeDistinguishedName
distribution_point_name_parts (FullName v) = inl v
distribution_point_name_parts (NameRelativeToCrlIssuer v) = inr v

abbrev pub distribution_point_name_of : List GeneralName ⊎ RelativeDistinguishedName → DistributionPointName
distribution_point_name_of (inl v) = FullName v
distribution_point_name_of (inr v) = NameRelativeToCrlIssuer v

pub distribution_point_name_there : (v : DistributionPointName) → distribution_point_name_of (distribution_point_name_parts v) ≡ v
distribution_point_name_there (FullName v) = refl
distribution_point_name_there (NameRelativeToCrlIssuer v) = refl

pub distribution_point_name_back : (p : List GeneralName ⊎ RelativeDistinguishedName) → distribution_point_name_parts (distribution_point_name_of p) ≡ p
distribution_point_name_back (inl v) = refl
distribution_point_name_back (inr v) = refl

abbrev pub distribution_point_name_forms : Codec (List GeneralName ⊎ RelativeDistinguishedName)
distribution_point_name_forms =
    either (implicitly (context 0) (sequence_of general_name 0 None refl) refl)
    (implicitly (context 1) relative_distinguished_name refl) refl

abbrev pub distribution_point_name : Codec DistributionPointName
distribution_point_name = as_choice distribution_point_name_forms distribution_point_name_parts distribution_point_name_of
    distribution_point_name_there distribution_point_name_back

unfoldable pub distribution_point_fields : Struct DistributionPoint
distribution_point_fields = as_struct (
    optional (explicitly (context 0) distribution_point_name)
    & optional (implicitly (context 1) bit_string refl)
    & optional (implicitly (context 2) (sequence_of general_name 0 None refl) refl)
    ) refl
    (λ v. v.distribution_point ⊗ v.reasons ⊗ v.crl_issuer)
    (λ distribution_point reasons crl_issuer. record { distribution_point = distribution_point; reasons = reasons; crl_issuer = crl_issuer })
    (λ v. refl) (λ f. refl)

abbrev pub no_point : DistributionPoint
no_point = record { distribution_point = None; reasons = None; crl_issuer = None }

abbrev pub distribution_point : Codec DistributionPoint
distribution_point = sequence (universal 16) distribution_point_fields

unfoldable pub issuing_distribution_point_fields : Struct IssuingDistributionPoint
issuing_distribution_point_fields = as_struct (
    optional (explicitly (context 0) distribution_point_name)
    & with_default (implicitly (context 1) boolean refl) beq beq_exact false
    & with_default (implicitly (context 2) boolean refl) beq beq_exact false
    & optional (implicitly (context 3) bit_string refl)
    & with_default (implicitly (context 4) boolean refl) beq beq_exact false
    & with_default (implicitly (context 5) boolean refl) beq beq_exact false
    ) refl
    (λ v. v.distribution_point ⊗ v.only_contains_user_certs ⊗ v.only_contains_ca_certs
    ⊗ v.only_some_reasons ⊗ v.indirect_crl ⊗ v.only_contains_attribute_certs)
    (λ distribution_point only_contains_user_certs only_contains_ca_certs only_some_reasons indirect_crl only_contains_attribute_certs. record {
      distribution_point = distribution_point;
      only_contains_user_certs = only_contains_user_certs;
      only_contains_ca_certs = only_contains_ca_certs;
      only_some_reasons = only_some_reasons;
      indirect_crl = indirect_crl;
      only_contains_attribute_certs = only_contains_attribute_certs;
    }) (λ v. refl) (λ f. refl)

abbrev pub issuing_distribution_point : Codec IssuingDistributionPoint
issuing_distribution_point = sequence (universal 16) issuing_distribution_point_fields
