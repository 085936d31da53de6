-- Requests for certificates, a line for each field (RFC 2986, 4).
use Rattle.std.specs.Prelude.{[], None, refl}
use Rattle.der_tree.specs.Codec.{Codec, Struct}
use Rattle.der_tree.specs.Grammar.{as_struct, implicitly, required, sequence, set_of, ◌&◌, ◌⊗◌}
use Rattle.der_tree.specs.PrimitiveTypes.{bit_string}
use Rattle.der_tree.specs.Tags.{context, universal}
use Rattle.pkix_name.specs.Names.{name, attribute}
use Rattle.pkix_cert.specs.Versions.{version}
use Rattle.pkix_cert.specs.Algorithms.{algorithm_identifier, subject_public_key_info}
use Rattle.pkix_cert.specs.declared.request.CertificationRequest.{CertificationRequest}
use Rattle.pkix_cert.specs.declared.request.CertificationRequestInfo.{CertificationRequestInfo}

unfoldable pub certification_request_info_fields : Struct CertificationRequestInfo
certification_request_info_fields = as_struct (
    required version
    & required name
    & required subject_public_key_info
    & required (implicitly (context 0) (set_of attribute 0 None [] refl) refl)
    ) refl
    (λ v. v.version ⊗ v.subject ⊗ v.subject_public_key_info ⊗ v.attributes)
    (λ version subject subject_public_key_info attributes. record {
      version = version;
      subject = subject;
      subject_public_key_info = subject_public_key_info;
      attributes = attributes;
    }) (λ v. refl) (λ f. refl)

abbrev pub certification_request_info : Codec CertificationRequestInfo
certification_request_info = sequence (universal 16) certification_request_info_fields

unfoldable pub certification_request_fields : Struct CertificationRequest
certification_request_fields = as_struct (
    required certification_request_info
    & required algorithm_identifier
    & required bit_string
    ) refl
    (λ v. v.info ⊗ v.signature_algorithm ⊗ v.signature)
    (λ info signature_algorithm signature. record {
      info = info;
      signature_algorithm = signature_algorithm;
      signature = signature;
    }) (λ v. refl) (λ f. refl)

abbrev pub certification_request : Codec CertificationRequest
certification_request = sequence (universal 16) certification_request_fields
