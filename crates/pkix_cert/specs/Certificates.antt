-- Certificates, a line for each field (RFC 5280, 4.1).
use Rattle.std.specs.Prelude.{refl}
use Rattle.der_tree.specs.Codec.{Codec, Struct}
use Rattle.der_tree.specs.Grammar.{as_struct, explicitly, implicitly, optional, required, sequence, with_default, ◌&◌, ◌⊗◌}
use Rattle.der_tree.specs.PrimitiveTypes.{bit_string, integer}
use Rattle.der_tree.specs.Tags.{context, universal}
use Rattle.pkix_cert.specs.Algorithms.{algorithm_identifier, subject_public_key_info}
use Rattle.pkix_name.specs.Names.{name}
use Rattle.pkix_cert.specs.Times.{validity}
use Rattle.pkix_cert.specs.Extensions.{extensions}
use Rattle.pkix_cert.specs.Versions.{version, same_version, same_version_exact, v1}
use Rattle.pkix_cert.specs.declared.certificate.TbsCertificate.{TbsCertificate}
use Rattle.pkix_cert.specs.declared.certificate.Certificate.{Certificate}

unfoldable pub tbs_certificate_fields : Struct TbsCertificate
tbs_certificate_fields = as_struct (
    with_default (explicitly (context 0) version) same_version same_version_exact v1
    & required integer
    & required algorithm_identifier
    & required name
    & required validity
    & required name
    & required subject_public_key_info
    & optional (implicitly (context 1) bit_string refl)
    & optional (implicitly (context 2) bit_string refl)
    & optional (explicitly (context 3) extensions)
    ) refl
    (λ v. v.version ⊗ v.serial_number ⊗ v.signature ⊗ v.issuer ⊗ v.validity
    ⊗ v.subject ⊗ v.subject_public_key_info ⊗ v.issuer_unique_id ⊗ v.subject_unique_id ⊗ v.extensions)
    (λ version serial_number signature issuer validity subject subject_public_key_info issuer_unique_id subject_unique_id extensions. record {
      version = version;
      serial_number = serial_number;
      signature = signature;
      issuer = issuer;
      validity = validity;
      subject = subject;
      subject_public_key_info = subject_public_key_info;
      issuer_unique_id = issuer_unique_id;
      subject_unique_id = subject_unique_id;
      extensions = extensions;
    }) (λ v. refl) (λ f. refl)

abbrev pub tbs_certificate : Codec TbsCertificate
tbs_certificate = sequence (universal 16) tbs_certificate_fields

unfoldable pub certificate_fields : Struct Certificate
certificate_fields = as_struct (
    required tbs_certificate
    & required algorithm_identifier
    & required bit_string
    ) refl
    (λ v. v.tbs_certificate ⊗ v.signature_algorithm ⊗ v.signature_value)
    (λ tbs_certificate signature_algorithm signature_value. record {
      tbs_certificate = tbs_certificate;
      signature_algorithm = signature_algorithm;
      signature_value = signature_value;
    }) (λ v. refl) (λ f. refl)

abbrev pub certificate : Codec Certificate
certificate = sequence (universal 16) certificate_fields
