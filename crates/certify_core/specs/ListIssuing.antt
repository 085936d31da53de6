-- The revocation list that is issued for a profile.
use Rattle.std.specs.Prelude.{◌≡◌, ℕ, List, Result}
use Rattle.std.proofs.Common.{sym, ap, ◌∙◌, subst}
use Rattle.asn1_core.proofs.Written.{once}
use Rattle.rcgen_certificate.specs.Issuers.{IssuerView}
use Rattle.rcgen_issue.specs.CrlView.{CrlView, crl_view}
use Rattle.rcgen_issue.specs.Lists.{IssuesCrl, first_crl_cause}
use Rattle.rcgen_issue.specs.declared.crl.CertificateRevocationListParams.{CertificateRevocationListParams}
use Rattle.rcgen_issue.proofs.ListsOnce.{one_issued_list}
use Rattle.certify_core.specs.Issuing.{IsSignatureOf, IsWrittenOf, issuer_of_profile, signed_once}
use Rattle.certify_core.specs.Lines.{hex_line}
use Rattle.certify_core.specs.CommandSpec.{CommandSpec, named}
use Rattle.profile_params.specs.RevocationLists.{list_of_profile}
use Rattle.toml_format.specs.Document.{document_of}
use Rattle.certify_profile.specs.RevocationList.{revocation_list}
use Rattle.certify_profile.specs.declared.issuer.IssuerTable.{IssuerTable}
use Rattle.toml_format.specs.declared.reason.Reason.{Reason}
use Rattle.certify_profile.specs.declared.revocation_list.ListProfile.{ListProfile}

-- the profile that the bytes are, or the least reason why they are none
abbrev pub list_profile_of : List ℕ → Result ListProfile Reason
list_profile_of = document_of revocation_list.read

-- the text is what is written of a list for the parameters that the issuer issues
abbrev pub IsListText : (List ℕ → List ℕ) → IssuerTable → CertificateRevocationListParams → List ℕ → Type 0
IsListText write issuer params = IsWrittenOf write (IssuesCrl (crl_view params) (issuer_of_profile issuer) (IsSignatureOf issuer.secret))

-- what a key lists for parameters of one view has one text
pub one_list_text : (write : List ℕ → List ℕ) (a b : CrlView) (issuer : IssuerView) (secret : List ℕ) → a ≡ b → (text other : List ℕ)
    → IsWrittenOf write (IssuesCrl a issuer (IsSignatureOf secret)) text → IsWrittenOf write (IssuesCrl b issuer (IsSignatureOf secret)) other
    → text ≡ other
one_list_text write a b issuer secret e text other v w =
    let fits = IsSignatureOf secret in
    let moved = subst (λ (params : CrlView). IssuesCrl params issuer fits v.0) e v.1 in
    v.2 ∙ ap write (one_issued_list once b issuer fits (signed_once secret) v.0 w.0 moved w.1) ∙ sym w.2

-- what is written of the list that is issued for a profile
abbrev pub written_list : (List ℕ → List ℕ) → ListProfile → CommandSpec
written_list write p = record {
  Params = CertificateRevocationListParams;
  Says = λ params. crl_view params ≡ list_of_profile p.content;
  HasReason = λ reason. ⊥;
  IsText = IsListText write p.issuer;
  first_cause = λ params. named (first_crl_cause (crl_view params) (issuer_of_profile p.issuer));
  one_cause = λ params other says said. ap (λ (x : CrlView). named (first_crl_cause x (issuer_of_profile p.issuer))) (says ∙ sym said);
  one_text = λ params other says said.
      one_list_text write (crl_view params) (crl_view other) (issuer_of_profile p.issuer) p.issuer.secret (says ∙ sym said);
  one_reason = λ reason other h k. absurd h;
  is_taken = λ params says reason h. h;
}

-- its line
abbrev pub list_spec : ListProfile → CommandSpec
list_spec = written_list hex_line
