-- A request for a subject that has a name of its own, octet by octet: what is to be signed for it, and what is issued over that.
use Rattle.std.specs.Prelude.{◌≡◌, ℕ, List, [], Option, Some, None}
use Rattle.der_tree.specs.Form.{IsDerOf}
use Rattle.pkix_cert.specs.Requests.{certification_request, certification_request_info}
use Rattle.pkix_cert.specs.declared.request.CertificationRequest.{CertificationRequest}
use Rattle.pkix_cert.specs.declared.request.CertificationRequestInfo.{CertificationRequestInfo}
use Rattle.pkix_name.specs.declared.name.Name.{Name}
use Rattle.rcgen_certificate.specs.KeyValues.{signature_identifier}
use Rattle.rcgen_certificate.specs.ParamsView.{ParamsView}
use Rattle.rcgen_certificate.specs.Requests.{IsInfo}
use Rattle.rcgen_sign.specs.Keys.{Key}
use Rattle.rcgen_tbs.specs.Messages.{IsRequestMessage, IsRequestOver}

-- what is signed, with this name as its subject (RFC 2986, 4.1)
abbrev pub with_subject : Name → CertificationRequestInfo → CertificationRequestInfo
with_subject name info = record info { subject = name }

-- what is signed for the parameters and the subject's key, with this name in place of theirs
pub record IsInfoNamed (params : ParamsView) (subject : Key) (name : Name) (info : CertificationRequestInfo) : Type 0 where
  pub base : CertificationRequestInfo
  pub base_is : IsInfo params subject [] base
  pub replaced : info ≡ with_subject name base

-- the message is the DER of what is signed for them, with this name where one is given
abbrev pub IsRequestMessageAs : ParamsView → Key → Option Name → List ℕ → Type 0
IsRequestMessageAs params subject None message = IsRequestMessage params subject [] message
IsRequestMessageAs params subject (Some name) message =
    (info : CertificationRequestInfo) × IsInfoNamed params subject name info × IsDerOf certification_request_info info message

-- der is the form of a request in which this is signed, by the algorithm of the subject's key, and the message is the DER of that, which its signature
-- fits
pub record IsRequestOverNamed (params : ParamsView) (subject : Key) (name : Name) (fits : List ℕ → List ℕ → Type 0) (message der : List ℕ)
    : Type 0 where
  pub request : CertificationRequest
  pub form : IsDerOf certification_request request der
  pub info : IsInfoNamed params subject name request.info
  pub signature_algorithm : request.signature_algorithm ≡ signature_identifier subject.algorithm
  pub no_unused_bits : request.signature.unused ≡ 0
  pub message_form : IsDerOf certification_request_info request.info message
  pub signed : fits message request.signature.bytes

-- the same with the name where one is given
abbrev pub IsRequestOverAs : ParamsView → Key → Option Name → (List ℕ → List ℕ → Type 0) → List ℕ → List ℕ → Type 0
IsRequestOverAs params subject None fits message der = IsRequestOver params subject [] fits message der
IsRequestOverAs params subject (Some name) fits message der = IsRequestOverNamed params subject name fits message der
