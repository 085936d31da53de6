-- The revocation list that is issued for a profile, and why none is.
use Rattle.std.proofs.Common.{◌≡◌, ℕ, List, None, ap, refl, subst}
use Rattle.rcgen_certificate.specs.Issuers.{IssuerView}
use Rattle.rcgen_issue.specs.CrlView.{crl_view}
use Rattle.rcgen_issue.specs.Lists.{IssuesCrl, first_crl_cause}
use Rattle.rcgen_issue.specs.declared.crl.CertificateRevocationListParams.{CertificateRevocationListParams}
use Rattle.rcgen_text.specs.Causes.{Explains, origin_of}
use Rattle.rcgen_text.specs.declared.error.Error.{Error}
use Rattle.certify_core.specs.Issuing.{IsSignatureOf, issuer_of_profile}
use Rattle.certify_core.specs.ListIssuing.{written_list}
use Rattle.certify_core.specs.CommandSpec.{IsMade, SpecGives, named}
use Rattle.certify_core.specs.Outcome.{HasRefusal, refusal_of}
use Rattle.profile_params.specs.RevocationLists.{list_of_profile}
use Rattle.certify_core.proofs.Made as made
use Rattle.certify_profile.specs.declared.revocation_list.ListProfile.{ListProfile}

-- what is written of what the issuer issues
pub issued : (write : List ℕ → List ℕ) (p : ListProfile) (params : CertificateRevocationListParams) (view : IssuerView) (secret der text : List ℕ)
    → crl_view params ≡ list_of_profile p.content → view ≡ issuer_of_profile p.issuer → secret ≡ p.issuer.secret
    → IssuesCrl (crl_view params) view (IsSignatureOf secret) der → text ≡ write der → first_crl_cause (crl_view params) view ≡ None
    → IsMade (written_list write p) text
issued write p params view secret der text says is_view is_secret lists is_line none =
    let by_secret = subst (λ (s : List ℕ). IssuesCrl (crl_view params) view (IsSignatureOf s) der) is_secret lists in
    record {
      params = params;
      says = says;
      written = (der, subst (λ (v : IssuerView). IssuesCrl (crl_view params) v (IsSignatureOf p.issuer.secret) der) is_view by_secret, is_line);
      no_cause = ap named (subst (λ (v : IssuerView). first_crl_cause (crl_view params) v ≡ None) is_view none);
    }

-- an error of it is a refusal of the profile
pub refused : (write : List ℕ → List ℕ) (p : ListProfile) (params : CertificateRevocationListParams) (view : IssuerView) (R : Type 0) (e : Error)
    → crl_view params ≡ list_of_profile p.content → view ≡ issuer_of_profile p.issuer → (R → ⊥)
    → Explains (first_crl_cause (crl_view params) view) R (origin_of e) → HasRefusal (SpecGives (written_list write p)) (refusal_of e)
refused write p params view R e says is_view never why =
    made.refused (written_list write p) params R (first_crl_cause (crl_view params) (issuer_of_profile p.issuer)) e refl says never
    (subst (λ (v : IssuerView). Explains (first_crl_cause (crl_view params) v) R (origin_of e)) is_view why)
