-- There is one message, and what is issued is over it.
use Rattle.std.proofs.Common.{◌≡◌, ℕ, List, subst}
use Rattle.attr_issue.specs.AttributeCertificateView.{AttributeCertificateView}
use Rattle.attr_issue.specs.AttributeCertificates.{IsAttributeInfo, IssuesAttribute}
use Rattle.der_tree.proofs.FormLaws.{same_form}
use Rattle.der_tree.specs.Form.{IsDerOf}
use Rattle.pkix_attr.specs.Certificates.{attribute_certificate_info}
use Rattle.pkix_attr.specs.declared.certificate.AttributeCertificateInfo.{AttributeCertificateInfo}
use Rattle.pkix_cert.specs.Certificates.{tbs_certificate}
use Rattle.pkix_cert.specs.Requests.{certification_request_info}
use Rattle.pkix_cert.specs.Revocations.{tbs_cert_list}
use Rattle.pkix_cert.specs.declared.certificate.TbsCertificate.{TbsCertificate}
use Rattle.pkix_cert.specs.declared.request.CertificationRequestInfo.{CertificationRequestInfo}
use Rattle.pkix_cert.specs.declared.revocation.TbsCertList.{TbsCertList}
use Rattle.rcgen_sign.specs.Keys.{Key}
use Rattle.rcgen_certificate.specs.Issue.{IsToBeSigned, Issues}
use Rattle.rcgen_certificate.specs.Issuers.{IssuerView}
use Rattle.rcgen_certificate.specs.Requests.{IsInfo, Requests}
use Rattle.rcgen_certificate.specs.declared.csr.Attribute.{Attribute}
use Rattle.rcgen_certificate.specs.ParamsView.{ParamsView}
use Rattle.rcgen_issue.specs.Lists.{IsCrlToBeSigned, IssuesCrl}
use Rattle.rcgen_issue.specs.CrlView.{CrlView}
use Rattle.rcgen_tbs.specs.Messages.{IsAttributeMessage, IsAttributeOver, IsCrlMessage, IsCrlOver}
use Rattle.rcgen_tbs.specs.Messages.{IsCertificateMessage, IsCertificateOver, IsRequestMessage, IsRequestOver}

abbrev pub OneTbs : Type 0
OneTbs = (params : ParamsView) (subject : Key) (issuer : IssuerView) (s t : TbsCertificate)
    → IsToBeSigned params subject issuer s → IsToBeSigned params subject issuer t → s ≡ t

abbrev pub OneTbsList : Type 0
OneTbsList = (params : CrlView) (issuer : IssuerView) (s t : TbsCertList)
    → IsCrlToBeSigned params issuer s → IsCrlToBeSigned params issuer t → s ≡ t

abbrev pub OneInfo : Type 0
OneInfo = (params : ParamsView) (subject : Key) (attrs : List Attribute) (s t : CertificationRequestInfo)
    → IsInfo params subject attrs s → IsInfo params subject attrs t → s ≡ t

abbrev pub OneAttributeInfo : Type 0
OneAttributeInfo = (params : AttributeCertificateView) (issuer : IssuerView) (s t : AttributeCertificateInfo)
    → IsAttributeInfo params issuer s → IsAttributeInfo params issuer t → s ≡ t

pub one_certificate_message : OneTbs → (params : ParamsView) (subject : Key) (issuer : IssuerView) (m n : List ℕ)
    → IsCertificateMessage params subject issuer m → IsCertificateMessage params subject issuer n → m ≡ n
one_certificate_message once params subject issuer m n h k =
    let same = once params subject issuer h.0 k.0 h.1 k.1 in
    same_form tbs_certificate k.0 m n (subst (λ (t : TbsCertificate). IsDerOf tbs_certificate t m) same h.2) k.2

pub one_crl_message : OneTbsList → (params : CrlView) (issuer : IssuerView) (m n : List ℕ)
    → IsCrlMessage params issuer m → IsCrlMessage params issuer n → m ≡ n
one_crl_message once params issuer m n h k =
    let same = once params issuer h.0 k.0 h.1 k.1 in
    same_form tbs_cert_list k.0 m n (subst (λ (t : TbsCertList). IsDerOf tbs_cert_list t m) same h.2) k.2

pub one_request_message : OneInfo → (params : ParamsView) (subject : Key) (attrs : List Attribute) (m n : List ℕ)
    → IsRequestMessage params subject attrs m → IsRequestMessage params subject attrs n → m ≡ n
one_request_message once params subject attrs m n h k =
    let same = once params subject attrs h.0 k.0 h.1 k.1 in
    same_form certification_request_info k.0 m n (subst (λ (t : CertificationRequestInfo). IsDerOf certification_request_info t m) same h.2) k.2

pub one_attribute_message : OneAttributeInfo → (params : AttributeCertificateView) (issuer : IssuerView) (m n : List ℕ)
    → IsAttributeMessage params issuer m → IsAttributeMessage params issuer n → m ≡ n
one_attribute_message once params issuer m n h k =
    let same = once params issuer h.0 k.0 h.1 k.1 in
    same_form attribute_certificate_info k.0 m n (subst (λ (t : AttributeCertificateInfo). IsDerOf attribute_certificate_info t m) same h.2) k.2

pub certificate_over : OneTbs → (params : ParamsView) (subject : Key) (issuer : IssuerView) (fits : List ℕ → List ℕ → Type 0)
    (message der : List ℕ) → IsCertificateMessage params subject issuer message → Issues params subject issuer fits der
    → IsCertificateOver params subject issuer fits message der
certificate_over once params subject issuer fits message der h k =
    let c = k.0 in
    let same = once params subject issuer h.0 c.tbs_certificate h.1 k.1.issued.to_be_signed in
    let form = subst (λ (t : TbsCertificate). IsDerOf tbs_certificate t message) same h.2 in
    let is = same_form tbs_certificate c.tbs_certificate k.1.message message k.1.message_form form in
    record {
      certificate = c;
      issued = k.1;
      message_form = form;
      signed = subst (λ (m : List ℕ). fits m c.signature_value.bytes) is k.1.signed;
    }

pub crl_over : OneTbsList → (params : CrlView) (issuer : IssuerView) (fits : List ℕ → List ℕ → Type 0)
    (message der : List ℕ) → IsCrlMessage params issuer message → IssuesCrl params issuer fits der → IsCrlOver params issuer fits message der
crl_over once params issuer fits message der h k =
    let c = k.0 in
    let same = once params issuer h.0 c.tbs_cert_list h.1 k.1.issued.to_be_signed in
    let form = subst (λ (t : TbsCertList). IsDerOf tbs_cert_list t message) same h.2 in
    let is = same_form tbs_cert_list c.tbs_cert_list k.1.message message k.1.message_form form in
    record { list = c; issued = k.1; message_form = form; signed = subst (λ (m : List ℕ). fits m c.signature.bytes) is k.1.signed }

pub request_over : OneInfo → (params : ParamsView) (subject : Key) (attrs : List Attribute) (fits : List ℕ → List ℕ → Type 0)
    (message der : List ℕ) → IsRequestMessage params subject attrs message → Requests params subject attrs fits der
    → IsRequestOver params subject attrs fits message der
request_over once params subject attrs fits message der h k =
    let c = k.0 in
    let same = once params subject attrs h.0 c.info h.1 k.1.info in
    let form = subst (λ (t : CertificationRequestInfo). IsDerOf certification_request_info t message) same h.2 in
    let is = same_form certification_request_info c.info k.1.message message k.1.message_form form in
    record { request = c; issued = k.1; message_form = form; signed = subst (λ (m : List ℕ). fits m c.signature.bytes) is k.1.signed }

pub attribute_over : OneAttributeInfo → (params : AttributeCertificateView) (issuer : IssuerView) (fits : List ℕ → List ℕ → Type 0)
    (message der : List ℕ) → IsAttributeMessage params issuer message → IssuesAttribute params issuer fits der
    → IsAttributeOver params issuer fits message der
attribute_over once params issuer fits message der h k =
    let c = k.0 in
    let same = once params issuer h.0 c.info h.1 k.1.issued.info in
    let form = subst (λ (t : AttributeCertificateInfo). IsDerOf attribute_certificate_info t message) same h.2 in
    let is = same_form attribute_certificate_info c.info k.1.message message k.1.message_form form in
    record { certificate = c; issued = k.1; message_form = form; signed = subst (λ (m : List ℕ). fits m c.signature_value.bytes) is k.1.signed }
