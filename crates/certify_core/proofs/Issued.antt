-- What is issued for a profile, and why nothing is.
use Rattle.std.proofs.Common.{◌≡◌, ◌∙◌, ℕ, List, Option, None, refl, sym, ap, subst}
use Rattle.std.specs.Option.{unwrap_or}
use Rattle.rcgen_certificate.specs.Issue.{IssuesAs, first_cause}
use Rattle.rcgen_certificate.specs.Issuers.{IssuerView, own_view}
use Rattle.rcgen_certificate.specs.ParamsView.{params_view}
use Rattle.rcgen_certificate.specs.declared.params.CertificateParams.{CertificateParams}
use Rattle.rcgen_text.specs.Causes.{Explains, origin_of}
use Rattle.rcgen_text.specs.declared.error.Error.{Error}
use Rattle.rcgen_sign.specs.DigestKeys.{digest_key}
use Rattle.certify_core.specs.Issuing.{IsSignatureOf, IsTextOf, issuer_table, issuing, own_issuer, issuer_of_profile}
use Rattle.certify_core.specs.CommandSpec.{IsMade, SpecGives, named}
use Rattle.certify_core.specs.Outcome.{HasRefusal, refusal_of}
use Rattle.profile_params.specs.Certificates.{params_of_profile}
use Rattle.certify_core.proofs.Made as made
use Rattle.certify_profile.specs.declared.certificate.CertificateProfile.{CertificateProfile}
use Rattle.certify_profile.specs.declared.issuer.IssuerTable.{IssuerTable}

-- the parameters say what the profile says
abbrev Says : CertificateParams → CertificateProfile → Type 0
Says params p = params_view params ≡ params_of_profile p.content

-- who issues, where the profile names an issuer and where it names none
pub issuer_is : (p : CertificateProfile) (found : Option IssuerTable) → p.issuer ≡ found → issuer_table p ≡ unwrap_or found (own_issuer p)
issuer_is p found e = ap (λ (x : Option IssuerTable). unwrap_or x (own_issuer p)) e

-- the view of the issuer that the parameters make of the subject's key
pub own_view_is : (p : CertificateProfile) (params : CertificateParams) (secret : List ℕ) → Says params p → secret ≡ p.secret
    → own_view (params_view params) (digest_key secret) ≡ issuer_of_profile (own_issuer p)
own_view_is p params secret s e = λ i. own_view (s i) (digest_key (e i))

view_is : (p : CertificateProfile) (t : IssuerTable) (view : IssuerView) → issuer_table p ≡ t → view ≡ issuer_of_profile t
    → view ≡ issuer_of_profile (issuer_table p)
view_is p t view e f = f ∙ ap issuer_of_profile (sym e)

-- the text of what an issuer issues for the subject is one of what is issued for the profile
pub issued : (p : CertificateProfile) (params : CertificateParams) (t : IssuerTable) (subject secret : List ℕ) (view : IssuerView) (text : List ℕ)
    → Says params p → issuer_table p ≡ t → subject ≡ p.secret → secret ≡ t.secret → view ≡ issuer_of_profile t
    → IsTextOf (IssuesAs (params_view params) (digest_key subject) view (IsSignatureOf secret)) text → first_cause (params_view params) view.name ≡ None
    → IsMade (issuing p) text
issued p params t subject secret view text says is_issuer is_subject is_secret is_view written none =
    let of_subject = subst (λ (s : List ℕ). IsTextOf (IssuesAs (params_view params) (digest_key s) view (IsSignatureOf secret)) text) is_subject written in
    let by_secret = subst (λ (s : List ℕ). IsTextOf (IssuesAs (params_view params) (digest_key p.secret) view (IsSignatureOf s)) text)
    (is_secret ∙ ap (λ (x : IssuerTable). x.secret) (sym is_issuer)) of_subject in
    let same_view = view_is p t view is_issuer is_view in
    record {
      params = params;
      says = says;
      written = subst (λ (v : IssuerView). IsTextOf (IssuesAs (params_view params) (digest_key p.secret) v (IsSignatureOf (issuer_table p).secret)) text)
          same_view by_secret;
      no_cause = ap named (subst (λ (v : IssuerView). first_cause (params_view params) v.name ≡ None) same_view none);
    }

-- an error of it is a refusal of the profile
pub refused : (p : CertificateProfile) (params : CertificateParams) (t : IssuerTable) (view : IssuerView) (R : Type 0) (e : Error)
    → Says params p → issuer_table p ≡ t → view ≡ issuer_of_profile t → (R → ⊥)
    → Explains (first_cause (params_view params) view.name) R (origin_of e) → HasRefusal (SpecGives (issuing p)) (refusal_of e)
refused p params t view R e says is_issuer is_view never why =
    made.refused (issuing p) params R (first_cause (params_view params) (issuer_of_profile (issuer_table p)).name) e refl says never
    (subst (λ (v : IssuerView). Explains (first_cause (params_view params) v.name) R (origin_of e)) (view_is p t view is_issuer is_view) why)
