-- What is to be signed, and what is issued over it.
use Rattle.std.specs.Prelude.{ℕ, List}
use Rattle.der_tree.specs.Form.{IsDerOf}
use Rattle.attr_issue.specs.AttributeCertificateView.{AttributeCertificateView}
use Rattle.attr_issue.specs.AttributeCertificates.{IsAttributeInfo, IssuesAttributeAs}
use Rattle.pkix_attr.specs.Certificates.{attribute_certificate_info}
use Rattle.pkix_attr.specs.declared.certificate.AttributeCertificate.{AttributeCertificate}
use Rattle.pkix_attr.specs.declared.certificate.AttributeCertificateInfo.{AttributeCertificateInfo}
use Rattle.pkix_cert.specs.Certificates.{tbs_certificate}
use Rattle.pkix_cert.specs.Requests.{certification_request_info}
use Rattle.pkix_cert.specs.Revocations.{tbs_cert_list}
use Rattle.pkix_cert.specs.declared.certificate.Certificate.{Certificate}
use Rattle.pkix_cert.specs.declared.certificate.TbsCertificate.{TbsCertificate}
use Rattle.pkix_cert.specs.declared.request.CertificationRequest.{CertificationRequest}
use Rattle.pkix_cert.specs.declared.request.CertificationRequestInfo.{CertificationRequestInfo}
use Rattle.pkix_cert.specs.declared.revocation.CertificateList.{CertificateList}
use Rattle.pkix_cert.specs.declared.revocation.TbsCertList.{TbsCertList}
use Rattle.rcgen_sign.specs.Keys.{Key}
use Rattle.rcgen_certificate.specs.Issue.{IsToBeSigned, IssuesAs}
use Rattle.rcgen_certificate.specs.Issuers.{IssuerView}
use Rattle.rcgen_certificate.specs.Requests.{IsInfo, RequestsAs}
use Rattle.rcgen_certificate.specs.declared.csr.Attribute.{Attribute}
use Rattle.rcgen_certificate.specs.ParamsView.{ParamsView}
use Rattle.rcgen_issue.specs.Lists.{IsCrlToBeSigned, IssuesCrlAs}
use Rattle.rcgen_issue.specs.CrlView.{CrlView}

-- the message is the DER of what is signed for the parameters and the subject's key, in view of the issuer (RFC 5280, 4.1.1.3)
abbrev pub IsCertificateMessage : ParamsView → Key → IssuerView → List ℕ → Type 0
IsCertificateMessage params subject issuer message = (t : TbsCertificate) × IsToBeSigned params subject issuer t × IsDerOf tbs_certificate t message

-- the same of a revocation list (RFC 5280, 5.1.1.3)
abbrev pub IsCrlMessage : CrlView → IssuerView → List ℕ → Type 0
IsCrlMessage params issuer message = (t : TbsCertList) × IsCrlToBeSigned params issuer t × IsDerOf tbs_cert_list t message

-- the same of a request (RFC 2986, 4.2)
abbrev pub IsRequestMessage : ParamsView → Key → List Attribute → List ℕ → Type 0
IsRequestMessage params subject attrs message =
    (info : CertificationRequestInfo) × IsInfo params subject attrs info × IsDerOf certification_request_info info message

-- the same of an attribute certificate (RFC 5755, 4.1)
abbrev pub IsAttributeMessage : AttributeCertificateView → IssuerView → List ℕ → Type 0
IsAttributeMessage params issuer message =
    (info : AttributeCertificateInfo) × IsAttributeInfo params issuer info × IsDerOf attribute_certificate_info info message

-- ---- what is issued over it

-- der is what is issued for them, what is signed in it has the message as its DER, and its signature fits that
pub record IsCertificateOver (params : ParamsView) (subject : Key) (issuer : IssuerView) (fits : List ℕ → List ℕ → Type 0) (message der : List ℕ)
    : Type 0 where
  pub certificate : Certificate
  pub issued : IssuesAs params subject issuer fits certificate der
  pub message_form : IsDerOf tbs_certificate certificate.tbs_certificate message
  pub signed : fits message certificate.signature_value.bytes

pub record IsCrlOver (params : CrlView) (issuer : IssuerView) (fits : List ℕ → List ℕ → Type 0) (message der : List ℕ)
    : Type 0 where
  pub list : CertificateList
  pub issued : IssuesCrlAs params issuer fits list der
  pub message_form : IsDerOf tbs_cert_list list.tbs_cert_list message
  pub signed : fits message list.signature.bytes

pub record IsRequestOver (params : ParamsView) (subject : Key) (attrs : List Attribute) (fits : List ℕ → List ℕ → Type 0)
    (message der : List ℕ) : Type 0 where
  pub request : CertificationRequest
  pub issued : RequestsAs params subject attrs fits request der
  pub message_form : IsDerOf certification_request_info request.info message
  pub signed : fits message request.signature.bytes

pub record IsAttributeOver (params : AttributeCertificateView) (issuer : IssuerView) (fits : List ℕ → List ℕ → Type 0) (message der : List ℕ)
    : Type 0 where
  pub certificate : AttributeCertificate
  pub issued : IssuesAttributeAs params issuer fits certificate der
  pub message_form : IsDerOf attribute_certificate_info certificate.info message
  pub signed : fits message certificate.signature_value.bytes
