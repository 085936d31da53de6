-- The attribute certificate that is issued for a profile.
use Rattle.std.specs.Prelude.{◌≡◌, ℕ, List, Result}
use Rattle.std.specs.Option.{option_map}
use Rattle.std.proofs.Common.{sym, ap, ◌∙◌, subst}
use Rattle.asn1_core.proofs.Written.{once}
use Rattle.attr_issue.specs.AttributeCauses.{first_attribute_cause}
use Rattle.attr_issue.specs.AttributeCertificateView.{AttributeCertificateView, attribute_certificate_view}
use Rattle.attr_issue.specs.AttributeCertificates.{IssuesAttribute}
use Rattle.attr_issue.specs.declared.attribute_certificate.AttributeCertificateParams.{AttributeCertificateParams}
use Rattle.attr_issue.proofs.AttributesOnce.{one_issued}
use Rattle.certify_core.specs.AttributeRefusals.{attribute_cause_name}
use Rattle.certify_core.specs.Issuing.{IsLineOf, IsSignatureOf, issuer_of_profile, signed_once}
use Rattle.certify_core.specs.Lines.{hex_line}
use Rattle.certify_core.specs.CommandSpec.{CommandSpec}
use Rattle.certify_core.specs.AttributeCertificates.{attribute_certificate_of_profile}
use Rattle.certify_profile.specs.AttributeCertificate.{attribute_certificate}
use Rattle.toml_format.specs.Document.{document_of}
use Rattle.certify_profile.specs.declared.attribute_certificate.AttributeCertificateProfile.{AttributeCertificateProfile}
use Rattle.certify_profile.specs.declared.issuer.IssuerTable.{IssuerTable}
use Rattle.toml_format.specs.declared.reason.Reason.{Reason}

-- the profile that the bytes are, or the least reason why they are none
abbrev pub attribute_profile_of : List ℕ → Result AttributeCertificateProfile Reason
attribute_profile_of = document_of attribute_certificate.read

-- the text is the line of what the issuer issues for the parameters
abbrev pub IsAttributeText : IssuerTable → AttributeCertificateView → List ℕ → Type 0
IsAttributeText issuer params = IsLineOf (IssuesAttribute params (issuer_of_profile issuer) (IsSignatureOf issuer.secret))

-- what a key issues for parameters of one view has one text
pub one_attribute_text : (a b : AttributeCertificateView) (issuer : IssuerTable) → a ≡ b → (text other : List ℕ)
    → IsAttributeText issuer a text → IsAttributeText issuer b other → text ≡ other
one_attribute_text a b issuer e text other v w =
    let view = issuer_of_profile issuer in
    let fits = IsSignatureOf issuer.secret in
    let moved = subst (λ (params : AttributeCertificateView). IssuesAttribute params view fits v.0) e v.1 in
    v.2 ∙ ap hex_line (one_issued once b view fits (signed_once issuer.secret) v.0 w.0 moved w.1) ∙ sym w.2

-- its line
abbrev pub attribute_issuing : AttributeCertificateProfile → CommandSpec
attribute_issuing p =
    let name = (issuer_of_profile p.issuer).name in record {
      Params = AttributeCertificateParams;
      Says = λ params. attribute_certificate_view params ≡ attribute_certificate_of_profile p;
      HasReason = λ reason. ⊥;
      IsText = λ params. IsAttributeText p.issuer (attribute_certificate_view params);
      first_cause = λ params. option_map attribute_cause_name (first_attribute_cause (attribute_certificate_view params) name);
      one_cause = λ params other says said.
          ap (λ (x : AttributeCertificateView). option_map attribute_cause_name (first_attribute_cause x name)) (says ∙ sym said);
      one_text = λ params other says said.
          one_attribute_text (attribute_certificate_view params) (attribute_certificate_view other) p.issuer (says ∙ sym said);
      one_reason = λ reason other h k. absurd h;
      is_taken = λ params says reason h. h;
    }
