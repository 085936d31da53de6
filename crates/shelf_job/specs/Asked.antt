-- What orders ask for, as values.
use Rattle.std.specs.Prelude.{ℕ, Bool, List, Option}
use Rattle.attr_issue.specs.AttributeCertificateView.{AttributeCertificateView}
use Rattle.pkix_name.specs.declared.name.Name.{Name}
use Rattle.rcgen_certificate.specs.ParamsView.{ParamsView}
use Rattle.rcgen_issue.specs.CrlView.{CrlView}
use Rattle.rcgen_sign.specs.Keys.{Key}
use Rattle.rcgen_tbs.specs.declared.subject.Subject.{Subject}

-- a certificate: what it says, the subject's name where that isn't the parameters', the subject's key, the issuer's certificate where the subject isn't
-- its own issuer, the key that signs, and whether a weak key is accepted
pub record CertificateAsked : Type 0 where
  pub params : ParamsView
  pub name : Option Name
  pub subject : Subject
  pub issuer : Option (List ℕ)
  pub key : Key
  pub weak_key : Bool

-- a request: what it asks for, the subject's name where that isn't the parameters', the key that it is for, and whether a weak one is accepted
pub record RequestAsked : Type 0 where
  pub params : ParamsView
  pub name : Option Name
  pub key : Key
  pub weak_key : Bool

-- a revocation list: what it says, of a delta list the number of the complete list on which it is based, the issuer's certificate and its key
pub record ListAsked : Type 0 where
  pub params : CrlView
  pub base : Option (List ℕ)
  pub issuer : List ℕ
  pub key : Key

-- an attribute certificate: what it says, the issuer's certificate and its key
pub record AttributeAsked : Type 0 where
  pub params : AttributeCertificateView
  pub issuer : List ℕ
  pub key : Key
