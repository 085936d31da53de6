-- Lists of revoked certificates, a line for each field (RFC 5280, 5.1).
use Rattle.std.specs.Prelude.{◌≡◌, ℕ, List, [], ◌∷◌, Some, None, refl}
use Rattle.der_tree.specs.Codec.{Codec, Struct}
use Rattle.der_tree.specs.Grammar.{as_struct, enumerated, explicitly, optional, required, sequence, sequence_of, unwritten_if_empty, value_numbered, ◌&◌}
use Rattle.der_tree.specs.Grammar.{◌⊗◌}
use Rattle.der_tree.specs.PrimitiveTypes.{bit_string, integer}
use Rattle.der_tree.specs.Tags.{context, universal}
use Rattle.pkix_name.specs.Names.{name}
use Rattle.pkix_cert.specs.Versions.{version}
use Rattle.pkix_cert.specs.Algorithms.{algorithm_identifier}
use Rattle.pkix_cert.specs.Times.{time}
use Rattle.pkix_cert.specs.Extensions.{extensions}
use Rattle.pkix_cert.specs.declared.revocation.CertificateList.{CertificateList}
use Rattle.pkix_cert.specs.declared.revocation.TbsCertList.{TbsCertList}
use Rattle.pkix_cert.specs.declared.revocation.RevokedCertificate.{RevokedCertificate}
use Rattle.pkix_cert.specs.declared.revocation.CrlReason.{CrlReason}
use Rattle.pkix_cert.specs.declared.revocation.CrlReason.TheVariants.{Unspecified, KeyCompromise, CaCompromise, AffiliationChanged, Superseded}
use Rattle.pkix_cert.specs.declared.revocation.CrlReason.TheVariants.{CessationOfOperation, CertificateHold, RemoveFromCRL, PrivilegeWithdrawn, AaCompromise}

unfoldable pub revoked_certificate_fields : Struct RevokedCertificate
revoked_certificate_fields = as_struct (
    required integer
    & required time
    & optional extensions
    ) refl
    (λ v. v.user_certificate ⊗ v.revocation_date ⊗ v.crl_entry_extensions)
    (λ user_certificate revocation_date crl_entry_extensions. record {
      user_certificate = user_certificate;
      revocation_date = revocation_date;
      crl_entry_extensions = crl_entry_extensions;
    }) (λ v. refl) (λ f. refl)

abbrev pub revoked_certificate : Codec RevokedCertificate
revoked_certificate = sequence (universal 16) revoked_certificate_fields

unfoldable pub tbs_cert_list_fields : Struct TbsCertList
tbs_cert_list_fields = as_struct (
    optional version
    & required algorithm_identifier
    & required name
    & required time
    & optional time
    & unwritten_if_empty (sequence_of revoked_certificate 0 None refl)
    & optional (explicitly (context 0) extensions)
    ) refl
    (λ v. v.version ⊗ v.signature ⊗ v.issuer ⊗ v.this_update ⊗ v.next_update ⊗ v.revoked_certificates ⊗ v.crl_extensions)
    (λ version signature issuer this_update next_update revoked_certificates crl_extensions. record {
      version = version;
      signature = signature;
      issuer = issuer;
      this_update = this_update;
      next_update = next_update;
      revoked_certificates = revoked_certificates;
      crl_extensions = crl_extensions;
    }) (λ v. refl) (λ f. refl)

abbrev pub tbs_cert_list : Codec TbsCertList
tbs_cert_list = sequence (universal 16) tbs_cert_list_fields

unfoldable pub certificate_list_fields : Struct CertificateList
certificate_list_fields = as_struct (
    required tbs_cert_list
    & required algorithm_identifier
    & required bit_string
    ) refl
    (λ v. v.tbs_cert_list ⊗ v.signature_algorithm ⊗ v.signature)
    (λ tbs_cert_list signature_algorithm signature. record {
      tbs_cert_list = tbs_cert_list;
      signature_algorithm = signature_algorithm;
      signature = signature;
    }) (λ v. refl) (λ f. refl)

abbrev pub certificate_list : Codec CertificateList
certificate_list = sequence (universal 16) certificate_list_fields

abbrev pub crl_reason_number : CrlReason → ℕ
crl_reason_number Unspecified = 0
crl_reason_number KeyCompromise = 1
crl_reason_number CaCompromise = 2
crl_reason_number AffiliationChanged = 3
crl_reason_number Superseded = 4
crl_reason_number CessationOfOperation = 5
crl_reason_number CertificateHold = 6
crl_reason_number RemoveFromCRL = 8
crl_reason_number PrivilegeWithdrawn = 9
crl_reason_number AaCompromise = 10

abbrev pub crl_reason_values : List CrlReason
crl_reason_values =
    Unspecified ∷ KeyCompromise ∷ CaCompromise ∷ AffiliationChanged ∷ Superseded
    ∷ CessationOfOperation ∷ CertificateHold ∷ RemoveFromCRL ∷ PrivilegeWithdrawn ∷ AaCompromise ∷ []

pub crl_reason_there : (v : CrlReason) → value_numbered crl_reason_number crl_reason_values (crl_reason_number v) ≡ Some v
crl_reason_there Unspecified = refl
crl_reason_there KeyCompromise = refl
crl_reason_there CaCompromise = refl
crl_reason_there AffiliationChanged = refl
crl_reason_there Superseded = refl
crl_reason_there CessationOfOperation = refl
crl_reason_there CertificateHold = refl
crl_reason_there RemoveFromCRL = refl
crl_reason_there PrivilegeWithdrawn = refl
crl_reason_there AaCompromise = refl

abbrev pub crl_reason : Codec CrlReason
crl_reason = enumerated crl_reason_number crl_reason_values crl_reason_there Unspecified refl
