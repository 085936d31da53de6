-- The request that is written for a profile.
use Rattle.std.specs.Prelude.{◌≡◌, ℕ, List, []}
use Rattle.std.proofs.Common.{sym, ap, ◌∙◌, subst}
use Rattle.rcgen_sign.specs.DigestKeys.{digest_key}
use Rattle.rcgen_certificate.specs.ParamsView.{ParamsView, params_view}
use Rattle.rcgen_certificate.specs.Requests.{Requests, first_request_cause}
use Rattle.rcgen_certificate.specs.declared.params.CertificateParams.{CertificateParams}
use Rattle.rcgen_certificate.proofs.RequestOnce.{one_requested}
use Rattle.certify_core.specs.Issuing.{IsLineOf, IsSignatureOf, signed_once}
use Rattle.certify_core.specs.Lines.{hex_line}
use Rattle.certify_core.specs.CommandSpec.{CommandSpec, named}
use Rattle.profile_params.specs.Certificates.{params_of_profile}
use Rattle.certify_profile.specs.declared.certificate.CertificateProfile.{CertificateProfile}

-- the text is the line of a request for the parameters, without further attributes, that the profile's own key signs
abbrev pub IsRequestText : CertificateProfile → CertificateParams → List ℕ → Type 0
IsRequestText p params = IsLineOf (Requests (params_view params) (digest_key p.secret) [] (IsSignatureOf p.secret))

-- parameters of one view have one text
pub one_request_text : (a b : CertificateParams) (p : CertificateProfile) → params_view a ≡ params_view b → (text other : List ℕ)
    → IsRequestText p a text → IsRequestText p b other → text ≡ other
one_request_text a b p e text other v w =
    let key = digest_key p.secret in
    let fits = IsSignatureOf p.secret in
    let requests = subst (λ (x : ParamsView). Requests x key [] fits v.0) e v.1 in
    v.2 ∙ ap hex_line (one_requested (params_view b) key [] fits (signed_once p.secret) v.0 w.0 requests w.1) ∙ sym w.2

-- what is requested for a profile, whose issuer isn't looked at
abbrev pub requesting : CertificateProfile → CommandSpec
requesting p = record {
  Params = CertificateParams;
  Says = λ params. params_view params ≡ params_of_profile p.content;
  HasReason = λ reason. ⊥;
  IsText = IsRequestText p;
  first_cause = λ params. named (first_request_cause (params_view params) []);
  one_cause = λ params other says said. ap (λ (x : ParamsView). named (first_request_cause x [])) (says ∙ sym said);
  one_text = λ params other says said. one_request_text params other p (says ∙ sym said);
  one_reason = λ reason other h k. absurd h;
  is_taken = λ params says reason h. h;
}
