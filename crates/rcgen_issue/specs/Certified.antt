-- Certificates beside what they are issued for.
use Rattle.std.specs.Prelude.{ℕ, List}
use Rattle.std.specs.List.{AllByRecursion}
use Rattle.rcgen_text.specs.Causes.{Origin, memory, key, cause, origin_of}
use Rattle.rcgen_text.specs.declared.error.Error.{Error}
use Rattle.rcgen_sign.specs.Keys.{Key}
use Rattle.rcgen_certificate.specs.Issue.{Issues, Refuses}
use Rattle.rcgen_certificate.specs.Issuers.{own_view}
use Rattle.rcgen_certificate.specs.Params.{AreNamesOfTexts, HasName, IsDefaultWith, IsFirstNameless}
use Rattle.rcgen_certificate.specs.ParamsView.{params_view}
use Rattle.rcgen_certificate.specs.declared.issuer.Issuer.{Issuer}
use Rattle.rcgen_certificate.specs.declared.params.CertificateParams.{CertificateParams}
use Rattle.rcgen_issue.specs.declared.certified.CertifiedIssuer.{CertifiedIssuer}

-- the DER of its certificate
abbrev pub der_of : {S : Type 0} → CertifiedIssuer S → List ℕ
der_of c = c.certificate

abbrev pub issuer_of : {S : Type 0} → CertifiedIssuer S → Issuer S
issuer_of c = c.issuer

-- ---- for the names of texts

-- the defaults, with the alternative names that the texts are
abbrev pub AreDefaultsFor : List (List ℕ) → CertificateParams → Type 0
AreDefaultsFor texts params = IsDefaultWith (AreNamesOfTexts texts) params

-- der is the form of the certificate that is issued for such parameters and the key, which signed it
abbrev pub IssuesSelfSigned : List (List ℕ) → Key → (List ℕ → List ℕ → Type 0) → List ℕ → Type 0
IssuesSelfSigned texts subject fits der =
    (params : CertificateParams) × AreDefaultsFor texts params × Issues (params_view params) subject (own_view (params_view params) subject) fits der

-- the key may refuse what is signed for such parameters
abbrev pub MayRefuseSelfSigned : List (List ℕ) → Key → (List ℕ → Type 0) → Type 0
MayRefuseSelfSigned texts subject may_refuse =
    (params : CertificateParams) × AreDefaultsFor texts params × Refuses (params_view params) subject (own_view (params_view params) subject) may_refuse

abbrev pub IsExplained : List (List ℕ) → Type 0 → Error → Origin → Type 0
IsExplained texts refuses e memory = Unit {0}
IsExplained texts refuses e key = AllByRecursion HasName texts × refuses
IsExplained texts refuses e (cause c) = IsFirstNameless texts e

-- Memory may run out at any time, a key refuses only where each text has a name, and a cause is the first text that has none.
abbrev pub ExplainsSelfSigned : List (List ℕ) → Type 0 → Error → Type 0
ExplainsSelfSigned texts refuses e = IsExplained texts refuses e (origin_of e)
