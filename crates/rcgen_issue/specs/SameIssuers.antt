-- That two issuers sign and issue the same, and sign nothing for the same causes, whatever the parameters.
use Rattle.std.specs.Prelude.{◌≡◌, ◌↔◌, ℕ, List}
use Rattle.pkix_cert.specs.declared.certificate.TbsCertificate.{TbsCertificate}
use Rattle.pkix_cert.specs.declared.revocation.TbsCertList.{TbsCertList}
use Rattle.rcgen_sign.specs.Keys.{Key}
use Rattle.rcgen_certificate.specs.Issue.{first_cause, IsToBeSigned, Issues}
use Rattle.rcgen_certificate.specs.Issuers.{IssuerView}
use Rattle.rcgen_certificate.specs.ParamsView.{ParamsView}
use Rattle.rcgen_issue.specs.Lists.{first_crl_cause, IsCrlToBeSigned, IssuesCrl}
use Rattle.rcgen_issue.specs.CrlView.{CrlView}

-- for given parameters both sign one and the same value, or nothing, and nothing for the same cause
pub record SignTheSame (one other : IssuerView) : Type 0 where
  pub certificates : (params : ParamsView) (subject : Key) (s t : TbsCertificate)
      → IsToBeSigned params subject one s → IsToBeSigned params subject other t → s ≡ t
  pub certificate_of_both : (params : ParamsView) (subject : Key) (t : TbsCertificate)
      → IsToBeSigned params subject one t ↔ IsToBeSigned params subject other t
  pub certificate_causes : (params : ParamsView) → first_cause params one.name ≡ first_cause params other.name
  pub lists : (params : CrlView) (s t : TbsCertList)
      → IsCrlToBeSigned params one s → IsCrlToBeSigned params other t → s ≡ t
  pub list_of_both : (params : CrlView) (t : TbsCertList) → IsCrlToBeSigned params one t ↔ IsCrlToBeSigned params other t
  pub list_causes : (params : CrlView) → first_crl_cause params one ≡ first_crl_cause params other

-- what they issue, signed so, is the same octets
pub record IssueTheSame (one other : IssuerView) (fits : List ℕ → List ℕ → Type 0) : Type 0 where
  pub certificates : (params : ParamsView) (subject : Key) (a b : List ℕ)
      → Issues params subject one fits a → Issues params subject other fits b → a ≡ b
  pub lists : (params : CrlView) (a b : List ℕ) → IssuesCrl params one fits a → IssuesCrl params other fits b → a ≡ b
