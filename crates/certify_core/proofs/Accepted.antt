-- What is issued for a request, and why nothing is.
use Rattle.std.proofs.Common.{◌≡◌, ℕ, List, Result, Ok, None, ap, refl, sym, subst}
use Rattle.rcgen_sign.specs.Keys.{Key}
use Rattle.rcgen_certificate.specs.Issue.{IssuesAs, first_cause}
use Rattle.rcgen_certificate.specs.Issuers.{IssuerView}
use Rattle.rcgen_certificate.specs.ParamsView.{params_view}
use Rattle.rcgen_certificate.specs.declared.params.CertificateParams.{CertificateParams}
use Rattle.rcgen_read.specs.RequestReading.{AreParamsOf, ReadRequest}
use Rattle.rcgen_text.specs.Causes.{Cause, Explains, origin_of}
use Rattle.rcgen_text.specs.declared.error.Error.{Error}
use Rattle.certify_core.specs.Accepting.{issuing_for}
use Rattle.certify_core.specs.Issuing.{IsSignatureOf, IsTextOf, issuer_of_profile}
use Rattle.certify_core.specs.CommandSpec.{IsMade, SpecGives, named, of_der}
use Rattle.certify_core.specs.Outcome.{HasRefusal, refusal_of}
use Rattle.certify_core.proofs.Made as made
use Rattle.certify_profile.specs.declared.issuer.IssuerTable.{IssuerTable}

-- the text of what the issuer issues for what was read
pub accepted : (t : IssuerTable) (found : Result ReadRequest Cause) (read : ReadRequest) (params : CertificateParams) (key : Key)
    (view : IssuerView) (secret text : List ℕ) → found ≡ Ok read → AreParamsOf read.name read.asked params → key ≡ read.key
    → view ≡ issuer_of_profile t → secret ≡ t.secret → IsTextOf (IssuesAs (params_view params) key view (IsSignatureOf secret)) text
    → first_cause (params_view params) view.name ≡ None → IsMade (of_der (issuing_for t) found) text
accepted t found read params key view secret text is_read are_params is_key is_view is_secret written none =
    let of_key = subst (λ (k : Key). IsTextOf (IssuesAs (params_view params) k view (IsSignatureOf secret)) text) is_key written in
    let by_secret = subst (λ (s : List ℕ). IsTextOf (IssuesAs (params_view params) read.key view (IsSignatureOf s)) text) is_secret of_key in
    subst (λ (f : Result ReadRequest Cause). IsMade (of_der (issuing_for t) f) text) (sym is_read) (record {
      params = params;
      says = are_params;
      written = subst (λ (v : IssuerView). IsTextOf (IssuesAs (params_view params) read.key v (IsSignatureOf t.secret)) text) is_view by_secret;
      no_cause = ap named (subst (λ (v : IssuerView). first_cause (params_view params) v.name ≡ None) is_view none);
    })

-- an error of issuing it is a refusal
pub refused : (t : IssuerTable) (found : Result ReadRequest Cause) (read : ReadRequest) (params : CertificateParams) (view : IssuerView)
    (R : Type 0) (e : Error) → found ≡ Ok read → AreParamsOf read.name read.asked params → view ≡ issuer_of_profile t → (R → ⊥)
    → Explains (first_cause (params_view params) view.name) R (origin_of e) → HasRefusal (SpecGives (of_der (issuing_for t) found)) (refusal_of e)
refused t found read params view R e is_read are_params is_view never why =
    subst (λ (f : Result ReadRequest Cause). HasRefusal (SpecGives (of_der (issuing_for t) f)) (refusal_of e)) (sym is_read)
    (made.refused (issuing_for t read) params R (first_cause (params_view params) (issuer_of_profile t).name) e refl are_params never
    (subst (λ (v : IssuerView). Explains (first_cause (params_view params) v.name) R (origin_of e)) is_view why))
