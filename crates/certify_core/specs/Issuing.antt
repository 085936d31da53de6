-- The certificate that is issued for a profile.
use Rattle.std.specs.Prelude.{◌≡◌, ℕ, List, ◌++◌}
use Rattle.std.specs.Option.{unwrap_or}
use Rattle.std.proofs.Common.{sym, ap, ◌∙◌, subst}
use Rattle.asn1_core.proofs.Written.{once}
use Rattle.der_tree.specs.Form.{IsDerOf}
use Rattle.der_tree.proofs.FormLaws.{same_value}
use Rattle.pkix_cert.specs.Certificates.{certificate}
use Rattle.pkix_cert.specs.declared.certificate.Certificate.{Certificate}
use Rattle.rcgen_sign.specs.DigestKeys.{digest_key, digest_signature}
use Rattle.rcgen_sign.specs.Keys.{Key}
use Rattle.rcgen_certificate.specs.Issue.{IssuesAs, first_cause}
use Rattle.rcgen_certificate.specs.Issuers.{IssuerView, issuer_view}
use Rattle.rcgen_certificate.specs.NameValues.{issuer_name}
use Rattle.rcgen_certificate.specs.ParamsView.{ParamsView, params_view}
use Rattle.rcgen_certificate.specs.Signed.{FitsOnce}
use Rattle.rcgen_certificate.specs.declared.params.CertificateParams.{CertificateParams}
use Rattle.rcgen_certificate.proofs.Once.{one_issued}
use Rattle.certify_core.specs.Lines.{hex_line}
use Rattle.certify_core.specs.Listing.{listing}
use Rattle.certify_core.specs.CommandSpec.{CommandSpec, named}
use Rattle.profile_params.specs.Certificates.{params_of_profile}
use Rattle.profile_params.specs.Names.{name_of_profile}
use Rattle.profile_params.specs.Keys.{method_of_profile}
use Rattle.certify_profile.specs.declared.certificate.CertificateProfile.{CertificateProfile}
use Rattle.certify_profile.specs.declared.issuer.IssuerTable.{IssuerTable}

-- ---- who issues

-- the subject, where its own key signs
abbrev pub own_issuer : CertificateProfile → IssuerTable
own_issuer p = record { secret = p.secret; name = p.content.name; key_usages = p.content.key_usages; key_id = p.content.key_id }

-- who issues: the issuer that the profile names, and else the subject itself
abbrev pub issuer_table : CertificateProfile → IssuerTable
issuer_table p = unwrap_or p.issuer (own_issuer p)

-- the signatures that the key of a secret makes
abbrev pub IsSignatureOf : List ℕ → List ℕ → List ℕ → Type 0
IsSignatureOf secret message signature = signature ≡ digest_signature secret message

-- what is read of the issuer that the table says
abbrev pub issuer_of_profile : IssuerTable → IssuerView
issuer_of_profile t = issuer_view (issuer_name (name_of_profile t.name)) (method_of_profile t.key_id) t.key_usages (digest_key t.secret)

-- of one message there is one
pub signed_once : (secret : List ℕ) → FitsOnce (IsSignatureOf secret)
signed_once secret message s t v w = v ∙ sym w

-- ---- what is issued

-- c, with the form der, is the certificate of these parameters for the subject's key that the profile's issuer issues
abbrev pub IssuesFor : CertificateProfile → CertificateParams → Certificate → List ℕ → Type 0
IssuesFor p params c der =
    let issuer = issuer_table p in
    IssuesAs (params_view params) (digest_key p.secret) (issuer_of_profile issuer) (IsSignatureOf issuer.secret) c der

-- the text is the line and the listing of a certificate that is issued so
abbrev pub IsTextOf : (Certificate → List ℕ → Type 0) → List ℕ → Type 0
IsTextOf Issues text = (c : Certificate) × (der : List ℕ) × Issues c der × (text ≡ hex_line der ++ listing c)

-- the text is what is written of a form that is issued so
abbrev pub IsWrittenOf : (List ℕ → List ℕ) → (List ℕ → Type 0) → List ℕ → Type 0
IsWrittenOf write Issues text = (der : List ℕ) × Issues der × (text ≡ write der)

-- the text is the line of what is issued so
abbrev pub IsLineOf : (List ℕ → Type 0) → List ℕ → Type 0
IsLineOf = IsWrittenOf hex_line

-- what a key issues for parameters of one view has one text
pub one_certificate_text : (a b : ParamsView) (subject : Key) (issuer : IssuerView) (secret : List ℕ) → a ≡ b → (text other : List ℕ)
    → IsTextOf (IssuesAs a subject issuer (IsSignatureOf secret)) text → IsTextOf (IssuesAs b subject issuer (IsSignatureOf secret)) other
    → text ≡ other
one_certificate_text a b subject issuer secret e text other v w =
    let fits = IsSignatureOf secret in
    let x = subst (λ (params : ParamsView). IssuesAs params subject issuer fits v.0 v.1) e v.2 in
    let octets = one_issued once b subject issuer fits (signed_once secret) v.1 w.1 (v.0, x) (w.0, w.2) in
    let value = same_value certificate v.0 w.0 w.1 (subst (λ (o : List ℕ). IsDerOf certificate v.0 o) octets x.form) w.2.form in
    v.3 ∙ (λ i. hex_line (octets i) ++ listing (value i)) ∙ sym w.3

-- what is issued for a profile
abbrev pub issuing : CertificateProfile → CommandSpec
issuing p = record {
  Params = CertificateParams;
  Says = λ params. params_view params ≡ params_of_profile p.content;
  HasReason = λ reason. ⊥;
  IsText = λ params. IsTextOf (IssuesFor p params);
  first_cause = λ params. named (first_cause (params_view params) (issuer_of_profile (issuer_table p)).name);
  one_cause = λ params other says said. ap (λ (x : ParamsView). named (first_cause x (issuer_of_profile (issuer_table p)).name)) (says ∙ sym said);
  one_text = λ params other says said.
      one_certificate_text (params_view params) (params_view other) (digest_key p.secret) (issuer_of_profile (issuer_table p)) (issuer_table p).secret
      (says ∙ sym said);
  one_reason = λ reason other h k. absurd h;
  is_taken = λ params says reason h. h;
}
