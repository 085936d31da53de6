-- What is signed for an attribute certificate's parameters is one value.
use Rattle.std.specs.Prelude.{◌≡◌, ℕ, List}
use Rattle.std.proofs.Common.{sym, ◌∙◌, subst}
use Rattle.asn1_core.specs.Binds.{some_is}
use Rattle.asn1_core.specs.Written.{IsWrittenOnce}
use Rattle.der_tree.specs.Form.{IsDerOf}
use Rattle.der_tree.proofs.FormLaws.{same_form}
use Rattle.pkix_attr.specs.Certificates.{attribute_certificate, attribute_certificate_info}
use Rattle.pkix_attr.specs.declared.certificate.AttributeCertificate.{AttributeCertificate}
use Rattle.pkix_attr.specs.declared.certificate.AttributeCertificateInfo.{AttributeCertificateInfo}
use Rattle.rcgen_certificate.specs.Issuers.{IssuerView}
use Rattle.rcgen_certificate.specs.Signed.{FitsOnce}
use Rattle.rcgen_certificate.proofs.Once.{one_field, one_signature}
use Rattle.rcgen_issue.proofs.ListsOnce.{one_general_time}
use Rattle.attr_issue.specs.AttributeCertificateView.{AttributeCertificateView}
use Rattle.attr_issue.specs.AttributeCertificates.{attribute_extension_rows, IsAttributeInfo, IssuesAttribute}

pub one_info : IsWrittenOnce → (params : AttributeCertificateView) (issuer : IssuerView) (s t : AttributeCertificateInfo)
    → IsAttributeInfo params issuer s → IsAttributeInfo params issuer t → s ≡ t
one_info once params issuer s t v w =
    let version = v.version ∙ sym w.version in
    let holder = some_is s.holder t.holder (sym v.holder ∙ w.holder) in
    let issuer_form = some_is s.issuer t.issuer (sym v.issuer_form ∙ w.issuer_form) in
    let signature = v.signature ∙ sym w.signature in
    let serial_number = v.serial_number ∙ sym w.serial_number in
    let not_before = one_general_time once params.not_before s.attr_cert_validity_period.not_before t.attr_cert_validity_period.not_before
    v.not_before w.not_before in
    let not_after = one_general_time once params.not_after s.attr_cert_validity_period.not_after t.attr_cert_validity_period.not_after
    v.not_after w.not_after in
    let attributes = v.attributes ∙ sym w.attributes in
    let unique_id = v.issuer_unique_id ∙ sym w.issuer_unique_id in
    let extensions = one_field (attribute_extension_rows params issuer) s.extensions t.extensions v.extensions w.extensions in
    λ i. record {
      version = version i;
      holder = holder i;
      issuer = issuer_form i;
      signature = signature i;
      serial_number = serial_number i;
      attr_cert_validity_period = record { not_before = not_before i; not_after = not_after i };
      attributes = attributes i;
      issuer_unique_id = unique_id i;
      extensions = extensions i;
    }

pub one_issued : IsWrittenOnce → (params : AttributeCertificateView) (issuer : IssuerView) (fits : List ℕ → List ℕ → Type 0) → FitsOnce fits
    → (a b : List ℕ) → IssuesAttribute params issuer fits a → IssuesAttribute params issuer fits b → a ≡ b
one_issued once params issuer fits one a b v w =
    let x = v.1 in
    let y = w.1 in
    let info = one_info once params issuer v.0.info w.0.info x.issued.info y.issued.info in
    let message = same_form attribute_certificate_info w.0.info x.message y.message
    (subst (λ (t : AttributeCertificateInfo). IsDerOf attribute_certificate_info t x.message) info x.message_form) y.message_form in
    let signature = one_signature fits one x.message y.message v.0.signature_value.bytes w.0.signature_value.bytes message x.signed y.signed in
    let unused = x.issued.no_unused_bits ∙ sym y.issued.no_unused_bits in
    let algorithm = x.issued.signature_algorithm ∙ sym y.issued.signature_algorithm in
    let same : v.0 ≡ w.0 = λ i. record {
      info = info i;
      signature_algorithm = algorithm i;
      signature_value = record { bytes = signature i; unused = unused i };
    } in
    same_form attribute_certificate w.0 a b (subst (λ (c : AttributeCertificate). IsDerOf attribute_certificate c a) same x.form) y.form
