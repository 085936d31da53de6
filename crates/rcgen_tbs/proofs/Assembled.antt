-- What is assembled over a message is what is issued over it.
use Rattle.std.specs.Prelude.{◌≡◌, ℕ, List, true, refl}
use Rattle.asn1_core.specs.Bits.{bits}
use Rattle.attr_issue.proofs.Issuing.{issues_as}
use Rattle.attr_issue.specs.AttributeCertificateView.{AttributeCertificateView}
use Rattle.der_tree.specs.AnyElement.{is_one}
use Rattle.der_tree.specs.Codec.{Codec}
use Rattle.der_tree.specs.Form.{IsDerOf}
use Rattle.pkix_attr.specs.Certificates.{attribute_certificate_info}
use Rattle.pkix_attr.specs.declared.certificate.AttributeCertificate.{AttributeCertificate}
use Rattle.pkix_cert.specs.Certificates.{tbs_certificate}
use Rattle.pkix_cert.specs.Requests.{certification_request_info}
use Rattle.pkix_cert.specs.Revocations.{tbs_cert_list}
use Rattle.pkix_cert.specs.declared.certificate.Certificate.{Certificate}
use Rattle.rcgen_sign.specs.Keys.{Key}
use Rattle.rcgen_sign.specs.declared.sign_algo.SignatureAlgorithm.{SignatureAlgorithm}
use Rattle.rcgen_certificate.proofs.Issuing.{certificate_form}
use Rattle.rcgen_certificate.proofs.Requests.{requests}
use Rattle.rcgen_certificate.proofs.SignedOctets.{form_is_one, stands_as_it_is}
use Rattle.rcgen_certificate.specs.Issuers.{IssuerView}
use Rattle.rcgen_certificate.specs.KeyValues.{signature_identifier}
use Rattle.rcgen_certificate.specs.ParamsView.{ParamsView}
use Rattle.rcgen_certificate.specs.Signed.{IsAssembled, IsSignedBy}
use Rattle.rcgen_certificate.specs.declared.csr.Attribute.{Attribute}
use Rattle.rcgen_issue.proofs.Lists.{lists}
use Rattle.rcgen_issue.specs.CrlView.{CrlView}
use Rattle.rcgen_tbs.proofs.Once.{OneInfo, OneTbsList, crl_over, request_over}
use Rattle.rcgen_tbs.specs.Messages.{IsAttributeMessage, IsAttributeOver, IsCrlMessage, IsCrlOver, IsRequestMessage, IsRequestOver}
use Rattle.rcgen_tbs.specs.Subjects.{IsCertificateMessageFor, IsCertificateOverFor}
use Rattle.rcgen_tbs.specs.declared.subject.Subject.{Subject}

-- the one signature that fits is the one that is given
abbrev fits : List ℕ → List ℕ → List ℕ → Type 0
fits s message t = t ≡ s

signed_by : {A : Type 0} (c : Codec A) (v : A) (a : SignatureAlgorithm) (s message der : List ℕ) → IsDerOf c v message → IsAssembled message a s der
    → IsSignedBy c v a s (fits s) der
signed_by c v a s message der form assembled = record {
  message = message;
  message_form = form;
  fit = refl;
  form = stands_as_it_is c v (signature_identifier a) (bits 0 s) message der form assembled;
}

pub certificate_assembled : (params : ParamsView) (subject : Subject) (issuer : IssuerView) (s message der : List ℕ)
    → IsCertificateMessageFor params subject issuer message → IsAssembled message issuer.algorithm s der
    → IsCertificateOverFor params subject issuer (λ m t. t ≡ s) message der
certificate_assembled params subject issuer s message der h k =
    let a = signature_identifier issuer.algorithm in
    let c : Certificate = record { tbs_certificate = h.0; signature_algorithm = a; signature_value = bits 0 s } in
    record {
      certificate = c;
      form = certificate_form c der (stands_as_it_is tbs_certificate h.0 a (bits 0 s) message der h.2 k);
      to_be_signed = h.1;
      signature_algorithm = refl;
      no_unused_bits = refl;
      message_form = h.2;
      signed = refl;
    }

pub crl_assembled : OneTbsList → (params : CrlView) (issuer : IssuerView) (s message der : List ℕ) → IsCrlMessage params issuer message
    → IsAssembled message issuer.algorithm s der → IsCrlOver params issuer (λ m t. t ≡ s) message der
crl_assembled once params issuer s message der h k =
    crl_over once params issuer (fits s) message der h
    (lists params issuer (fits s) h.0 der h.1 (s, signed_by tbs_cert_list h.0 issuer.algorithm s message der h.2 k))

pub request_assembled : OneInfo → (params : ParamsView) (subject : Key) (attrs : List Attribute) (s message der : List ℕ)
    → IsRequestMessage params subject attrs message → IsAssembled message subject.algorithm s der
    → IsRequestOver params subject attrs (λ m t. t ≡ s) message der
request_assembled once params subject attrs s message der h k =
    request_over once params subject attrs (fits s) message der h
    (requests params subject attrs (fits s) h.0 der h.1 (s, signed_by certification_request_info h.0 subject.algorithm s message der h.2 k))

pub attribute_assembled : (params : AttributeCertificateView) (issuer : IssuerView) (s message der : List ℕ)
    → IsAttributeMessage params issuer message → IsAssembled message issuer.algorithm s der
    → IsAttributeOver params issuer (λ m t. t ≡ s) message der
attribute_assembled params issuer s message der h k =
    let c : AttributeCertificate =
    record { info = h.0; signature_algorithm = signature_identifier issuer.algorithm; signature_value = bits 0 s } in
    record {
      certificate = c;
      issued = issues_as params issuer (fits s) c der h.1 refl refl
          (signed_by attribute_certificate_info h.0 issuer.algorithm s message der h.2 k);
      message_form = h.2;
      signed = refl;
    }

-- ---- a message is one element

pub certificate_is_one : (params : ParamsView) (subject : Subject) (issuer : IssuerView) (m : List ℕ)
    → IsCertificateMessageFor params subject issuer m → is_one m ≡ true
certificate_is_one params subject issuer m h = form_is_one tbs_certificate h.0 m h.2

pub crl_is_one : (params : CrlView) (issuer : IssuerView) (m : List ℕ) → IsCrlMessage params issuer m → is_one m ≡ true
crl_is_one params issuer m h = form_is_one tbs_cert_list h.0 m h.2

pub request_is_one : (params : ParamsView) (subject : Key) (attrs : List Attribute) (m : List ℕ) → IsRequestMessage params subject attrs m
    → is_one m ≡ true
request_is_one params subject attrs m h = form_is_one certification_request_info h.0 m h.2

pub attribute_is_one : (params : AttributeCertificateView) (issuer : IssuerView) (m : List ℕ) → IsAttributeMessage params issuer m → is_one m ≡ true
attribute_is_one params issuer m h = form_is_one attribute_certificate_info h.0 m h.2
