-- Attribute certificates, a line for each field (RFC 5755, 4.1).
use Rattle.std.specs.Prelude.{None, refl}
use Rattle.der_tree.specs.Codec.{Codec, Struct}
use Rattle.der_tree.specs.Grammar.{as_struct, as_type, optional, required, sequence, sequence_of, ◌&◌, ◌⊗◌}
use Rattle.der_tree.specs.PrimitiveTypes.{bit_string, generalized_time, integer}
use Rattle.der_tree.specs.Tags.{universal}
use Rattle.pkix_name.specs.Names.{attribute}
use Rattle.pkix_name.specs.GeneralNames.{general_name}
use Rattle.pkix_cert.specs.Algorithms.{algorithm_identifier}
use Rattle.pkix_cert.specs.Extensions.{extensions}
use Rattle.pkix_attr.specs.Holders.{holder, issuer}
use Rattle.pkix_attr.specs.declared.certificate.AttributeCertificate.{AttributeCertificate}
use Rattle.pkix_attr.specs.declared.certificate.AttributeCertificateInfo.{AttributeCertificateInfo}
use Rattle.pkix_attr.specs.declared.certificate.AttributeCertificateVersion.{AttributeCertificateVersion}
use Rattle.pkix_attr.specs.declared.certificate.AttributeCertificateValidityPeriod.{AttributeCertificateValidityPeriod}
use Rattle.pkix_attr.specs.declared.certificate.AttributeCertificateClearAttributes.{AttributeCertificateClearAttributes}

abbrev pub attribute_certificate_version : Codec AttributeCertificateVersion
attribute_certificate_version = as_type integer (λ v. v.0) (λ l. record { 0 = l }) (λ v. refl) (λ l. refl)

unfoldable pub attribute_certificate_validity_period_fields : Struct AttributeCertificateValidityPeriod
attribute_certificate_validity_period_fields = as_struct (
    required generalized_time
    & required generalized_time
    ) refl
    (λ v. v.not_before ⊗ v.not_after)
    (λ not_before not_after. record { not_before = not_before; not_after = not_after }) (λ v. refl) (λ f. refl)

abbrev pub attribute_certificate_validity_period : Codec AttributeCertificateValidityPeriod
attribute_certificate_validity_period = sequence (universal 16) attribute_certificate_validity_period_fields

unfoldable pub attribute_certificate_info_fields : Struct AttributeCertificateInfo
attribute_certificate_info_fields = as_struct (
    required attribute_certificate_version
    & required holder
    & required issuer
    & required algorithm_identifier
    & required integer
    & required attribute_certificate_validity_period
    & required (sequence_of attribute 0 None refl)
    & optional bit_string
    & optional extensions
    ) refl
    (λ v. v.version ⊗ v.holder ⊗ v.issuer ⊗ v.signature ⊗ v.serial_number ⊗ v.attr_cert_validity_period ⊗ v.attributes ⊗ v.issuer_unique_id
    ⊗ v.extensions)
    (λ version holder issuer signature serial_number attr_cert_validity_period attributes issuer_unique_id extensions. record {
      version = version;
      holder = holder;
      issuer = issuer;
      signature = signature;
      serial_number = serial_number;
      attr_cert_validity_period = attr_cert_validity_period;
      attributes = attributes;
      issuer_unique_id = issuer_unique_id;
      extensions = extensions;
    })
    (λ v. refl) (λ f. refl)

abbrev pub attribute_certificate_info : Codec AttributeCertificateInfo
attribute_certificate_info = sequence (universal 16) attribute_certificate_info_fields

unfoldable pub attribute_certificate_fields : Struct AttributeCertificate
attribute_certificate_fields = as_struct (
    required attribute_certificate_info
    & required algorithm_identifier
    & required bit_string
    ) refl
    (λ v. v.info ⊗ v.signature_algorithm ⊗ v.signature_value)
    (λ info signature_algorithm signature_value. record { info = info; signature_algorithm = signature_algorithm; signature_value = signature_value })
    (λ v. refl) (λ f. refl)

abbrev pub attribute_certificate : Codec AttributeCertificate
attribute_certificate = sequence (universal 16) attribute_certificate_fields

unfoldable pub attribute_certificate_clear_attributes_fields : Struct AttributeCertificateClearAttributes
attribute_certificate_clear_attributes_fields = as_struct (
    required general_name
    & required integer
    & required (sequence_of attribute 0 None refl)
    ) refl
    (λ v. v.issuer ⊗ v.serial ⊗ v.attrs)
    (λ issuer serial attrs. record { issuer = issuer; serial = serial; attrs = attrs }) (λ v. refl) (λ f. refl)

abbrev pub attribute_certificate_clear_attributes : Codec AttributeCertificateClearAttributes
attribute_certificate_clear_attributes = sequence (universal 16) attribute_certificate_clear_attributes_fields
