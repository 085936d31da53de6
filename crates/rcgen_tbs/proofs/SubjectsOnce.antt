-- Of each subject there is one message, and one certificate over it.
use Rattle.std.proofs.Common.{◌≡◌, ◌∙◌, ℕ, List, sym, ap, subst}
use Rattle.der_tree.proofs.FormLaws.{same_form}
use Rattle.der_tree.specs.Form.{IsDerOf}
use Rattle.pkix_cert.specs.Algorithms.{subject_public_key_info}
use Rattle.pkix_cert.specs.Certificates.{certificate, tbs_certificate}
use Rattle.pkix_cert.specs.declared.algorithm.SubjectPublicKeyInfo.{SubjectPublicKeyInfo}
use Rattle.pkix_cert.specs.declared.certificate.Certificate.{Certificate}
use Rattle.pkix_cert.specs.declared.certificate.TbsCertificate.{TbsCertificate}
use Rattle.rcgen_sign.specs.Keys.{Key}
use Rattle.rcgen_certificate.proofs.Once.{one_signature}
use Rattle.rcgen_certificate.specs.Issue.{IsToBeSigned}
use Rattle.rcgen_certificate.specs.Issuers.{IssuerView}
use Rattle.rcgen_certificate.specs.ParamsView.{ParamsView}
use Rattle.rcgen_certificate.specs.Signed.{FitsOnce}
use Rattle.rcgen_tbs.proofs.Once.{OneTbs}
use Rattle.rcgen_tbs.specs.Messages.{IsCertificateOver}
use Rattle.rcgen_tbs.specs.Subjects.{IsCertificateMessageFor, IsCertificateOverFor, IsToBeSignedFor, IsToBeSignedWith, identified, stand_in, with_info}
use Rattle.rcgen_tbs.specs.declared.subject.Subject.{Subject}
use Rattle.rcgen_tbs.specs.declared.subject.Subject.TheVariants.{Known, Other}

one_with : OneTbs → (params : ParamsView) (info : SubjectPublicKeyInfo) (issuer : IssuerView) (s t : TbsCertificate)
    → IsToBeSignedWith params info issuer s → IsToBeSignedWith params info issuer t → s ≡ t
one_with once params info issuer s t h k =
    let octets = same_form subject_public_key_info info h.info_octets k.info_octets h.info_form k.info_form in
    let moved = subst (λ (o : List ℕ). IsToBeSigned (identified params o) (stand_in info) issuer h.base) octets h.base_is in
    let base = once (identified params k.info_octets) (stand_in info) issuer h.base k.base moved k.base_is in
    h.replaced ∙ ap (λ (x : TbsCertificate). with_info info x) base ∙ sym k.replaced

pub one_for : OneTbs → (params : ParamsView) (subject : Subject) (issuer : IssuerView) (s t : TbsCertificate)
    → IsToBeSignedFor params subject issuer s → IsToBeSignedFor params subject issuer t → s ≡ t
one_for once params (Known key) issuer s t h k = once params key issuer s t h k
one_for once params (Other info) issuer s t h k = one_with once params info issuer s t h k

pub one_message_for : OneTbs → (params : ParamsView) (subject : Subject) (issuer : IssuerView) (m n : List ℕ)
    → IsCertificateMessageFor params subject issuer m → IsCertificateMessageFor params subject issuer n → m ≡ n
one_message_for once params subject issuer m n h k =
    let same = one_for once params subject issuer h.0 k.0 h.1 k.1 in
    same_form tbs_certificate k.0 m n (subst (λ (t : TbsCertificate). IsDerOf tbs_certificate t m) same h.2) k.2

pub one_over_for : OneTbs → (params : ParamsView) (subject : Subject) (issuer : IssuerView) (fits : List ℕ → List ℕ → Type 0) → FitsOnce fits
    → (m n a b : List ℕ) → IsCertificateOverFor params subject issuer fits m a → IsCertificateOverFor params subject issuer fits n b → a ≡ b
one_over_for once params subject issuer fits one m n a b v w =
    let c = v.certificate in
    let d = w.certificate in
    let tbs = one_for once params subject issuer c.tbs_certificate d.tbs_certificate v.to_be_signed w.to_be_signed in
    let message = same_form tbs_certificate d.tbs_certificate m n (subst (λ (t : TbsCertificate). IsDerOf tbs_certificate t m) tbs v.message_form)
    w.message_form in
    let signature = one_signature fits one m n c.signature_value.bytes d.signature_value.bytes message v.signed w.signed in
    let unused = v.no_unused_bits ∙ sym w.no_unused_bits in
    let algorithm = v.signature_algorithm ∙ sym w.signature_algorithm in
    let same : c ≡ d = λ i. record {
      tbs_certificate = tbs i;
      signature_algorithm = algorithm i;
      signature_value = record { bytes = signature i; unused = unused i };
    } in
    same_form certificate d a b (subst (λ (x : Certificate). IsDerOf certificate x a) same v.form) w.form

-- ---- a known key

pub known_over : (params : ParamsView) (subject : Key) (issuer : IssuerView) (fits : List ℕ → List ℕ → Type 0) (message der : List ℕ)
    → IsCertificateOver params subject issuer fits message der → IsCertificateOverFor params (Known subject) issuer fits message der
known_over params subject issuer fits message der h = record {
  certificate = h.certificate;
  form = h.issued.form;
  to_be_signed = h.issued.issued.to_be_signed;
  signature_algorithm = h.issued.issued.signature_algorithm;
  no_unused_bits = h.issued.issued.no_unused_bits;
  message_form = h.message_form;
  signed = h.signed;
}

pub over_known : (params : ParamsView) (subject : Key) (issuer : IssuerView) (fits : List ℕ → List ℕ → Type 0) (message der : List ℕ)
    → IsCertificateOverFor params (Known subject) issuer fits message der → IsCertificateOver params subject issuer fits message der
over_known params subject issuer fits message der h = record {
  certificate = h.certificate;
  issued = record {
    message = message;
    form = h.form;
    message_form = h.message_form;
    issued = record {
      to_be_signed = h.to_be_signed;
      signature_algorithm = h.signature_algorithm;
      no_unused_bits = h.no_unused_bits;
    };
    signed = h.signed;
  };
  message_form = h.message_form;
  signed = h.signed;
}
