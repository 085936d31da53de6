-- A subject that has a name of its own, octet by octet: what is to be signed for it, and what is issued over that.
use Rattle.std.specs.Prelude.{◌≡◌, ℕ, List, Option, Some, None}
use Rattle.der_tree.specs.Form.{IsDerOf}
use Rattle.pkix_cert.specs.Certificates.{certificate as certificate_codec, tbs_certificate}
use Rattle.pkix_cert.specs.declared.certificate.Certificate.{Certificate}
use Rattle.pkix_cert.specs.declared.certificate.TbsCertificate.{TbsCertificate}
use Rattle.pkix_name.specs.declared.name.Name.{Name}
use Rattle.rcgen_certificate.specs.Issuers.{IssuerView}
use Rattle.rcgen_certificate.specs.KeyValues.{signature_identifier}
use Rattle.rcgen_certificate.specs.ParamsView.{ParamsView}
use Rattle.rcgen_tbs.specs.Subjects.{IsCertificateMessageFor, IsCertificateOverFor, IsToBeSignedFor}
use Rattle.rcgen_tbs.specs.declared.subject.Subject.{Subject}

-- what is signed, with this name as its subject (RFC 5280, 4.1.2.6)
abbrev pub with_name : Name → TbsCertificate → TbsCertificate
with_name name t = record t { subject = name }

-- what is signed for the parameters and the subject, with this name in place of theirs
pub record IsToBeSignedNamed (params : ParamsView) (subject : Subject) (name : Name) (issuer : IssuerView) (t : TbsCertificate) : Type 0 where
  pub base : TbsCertificate
  pub base_is : IsToBeSignedFor params subject issuer base
  pub replaced : t ≡ with_name name base

-- the message is the DER of what is signed for them, with this name where one is given
abbrev pub IsCertificateMessageAs : ParamsView → Subject → Option Name → IssuerView → List ℕ → Type 0
IsCertificateMessageAs params subject None issuer message = IsCertificateMessageFor params subject issuer message
IsCertificateMessageAs params subject (Some name) issuer message =
    (t : TbsCertificate) × IsToBeSignedNamed params subject name issuer t × IsDerOf tbs_certificate t message

-- der is the form of a certificate in which this is signed, by the issuer's algorithm, and the message is the DER of that, which its signature fits
pub record IsCertificateOverNamed (params : ParamsView) (subject : Subject) (name : Name) (issuer : IssuerView) (fits : List ℕ → List ℕ → Type 0)
    (message der : List ℕ) : Type 0 where
  pub certificate : Certificate
  pub form : IsDerOf certificate_codec certificate der
  pub to_be_signed : IsToBeSignedNamed params subject name issuer certificate.tbs_certificate
  pub signature_algorithm : certificate.signature_algorithm ≡ signature_identifier issuer.algorithm
  pub no_unused_bits : certificate.signature_value.unused ≡ 0
  pub message_form : IsDerOf tbs_certificate certificate.tbs_certificate message
  pub signed : fits message certificate.signature_value.bytes

-- the same with the name where one is given
abbrev pub IsCertificateOverAs : ParamsView → Subject → Option Name → IssuerView → (List ℕ → List ℕ → Type 0) → List ℕ → List ℕ → Type 0
IsCertificateOverAs params subject None issuer fits message der = IsCertificateOverFor params subject issuer fits message der
IsCertificateOverAs params subject (Some name) issuer fits message der = IsCertificateOverNamed params subject name issuer fits message der
