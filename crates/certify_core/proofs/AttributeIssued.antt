-- The attribute certificate that is issued for a profile, and why none is.
use Rattle.std.proofs.Common.{◌≡◌, ℕ, List, None, ap, subst}
use Rattle.std.specs.Option.{option_map}
use Rattle.rcgen_certificate.specs.Issuers.{IssuerView}
use Rattle.rcgen_text.specs.Causes.{Origin, cause, key as of_key, memory, origin_of}
use Rattle.attr_issue.specs.AttributeCauses.{ExplainsAttribute, ExplainsRefused, first_attribute_cause}
use Rattle.attr_issue.specs.AttributeCertificateView.{attribute_certificate_view}
use Rattle.attr_issue.specs.AttributeCertificates.{IssuesAttribute}
use Rattle.attr_issue.specs.declared.attribute_certificate.AttributeCertificateParams.{AttributeCertificateParams}
use Rattle.attr_issue.specs.declared.error.AttrError.{AttrError}
use Rattle.attr_issue.specs.declared.error.AttrError.TheVariants as error
use Rattle.certify_core.specs.AttributeIssuing.{attribute_issuing}
use Rattle.certify_core.specs.AttributeRefusals.{attribute_cause_name, attribute_refusal}
use Rattle.certify_core.specs.Issuing.{IsSignatureOf, issuer_of_profile}
use Rattle.certify_core.specs.Lines.{hex_line}
use Rattle.certify_core.specs.CommandSpec.{IsMade, SpecGives}
use Rattle.certify_core.specs.Outcome.{HasRefusal, refusal_by}
use Rattle.certify_core.specs.AttributeCertificates.{attribute_certificate_of_profile}
use Rattle.certify_profile.specs.declared.attribute_certificate.AttributeCertificateProfile.{AttributeCertificateProfile}

-- the parameters say what the profile says
abbrev Says : AttributeCertificateParams → AttributeCertificateProfile → Type 0
Says params p = attribute_certificate_view params ≡ attribute_certificate_of_profile p

-- the line of what the issuer issues
pub issued : (p : AttributeCertificateProfile) (params : AttributeCertificateParams) (view : IssuerView) (secret der text : List ℕ)
    → Says params p → view ≡ issuer_of_profile p.issuer → secret ≡ p.issuer.secret → IssuesAttribute (attribute_certificate_view params) view (IsSignatureOf secret) der → text ≡ hex_line der
    → first_attribute_cause (attribute_certificate_view params) view.name ≡ None → IsMade (attribute_issuing p) text
issued p params view secret der text says is_view is_secret issues is_line none =
    let said = attribute_certificate_view params in
    let by_secret = subst (λ (s : List ℕ). IssuesAttribute said view (IsSignatureOf s) der) is_secret issues in
    record {
      params = params;
      says = says;
      written = (der, subst (λ (v : IssuerView). IssuesAttribute said v (IsSignatureOf p.issuer.secret) der) is_view by_secret, is_line);
      no_cause = ap (option_map attribute_cause_name) (subst (λ (v : IssuerView). first_attribute_cause said v.name ≡ None) is_view none);
    }

by_origin : (p : AttributeCertificateProfile) (params : AttributeCertificateParams) (R : Type 0) (o : Origin) → Says params p → (R → ⊥)
    → ExplainsRefused (first_attribute_cause (attribute_certificate_view params) (issuer_of_profile p.issuer).name) R o
    → HasRefusal (SpecGives (attribute_issuing p)) (refusal_by o)
by_origin p params R memory says never x = absurd x
by_origin p params R of_key says never x = absurd (never x.1)
by_origin p params R (cause c) says never x = record { params = params; says = says; first = ap (option_map attribute_cause_name) x }

by_error : (p : AttributeCertificateProfile) (params : AttributeCertificateParams) (R : Type 0) (e : AttrError) → Says params p → (R → ⊥)
    → ExplainsAttribute (first_attribute_cause (attribute_certificate_view params) (issuer_of_profile p.issuer).name) R e
    → HasRefusal (SpecGives (attribute_issuing p)) (attribute_refusal e)
by_error p params R error.NoAttributes says never x = record { params = params; says = says; first = ap (option_map attribute_cause_name) x }
by_error p params R error.RepeatedAttribute says never x = record { params = params; says = says; first = ap (option_map attribute_cause_name) x }
by_error p params R (error.Refused e) says never x = by_origin p params R (origin_of e) says never x
by_error p params R error.OutOfMemory says never x = tt

-- an error of it is a refusal of the profile
pub refused : (p : AttributeCertificateProfile) (params : AttributeCertificateParams) (view : IssuerView) (R : Type 0) (e : AttrError)
    → Says params p → view ≡ issuer_of_profile p.issuer → (R → ⊥)
    → ExplainsAttribute (first_attribute_cause (attribute_certificate_view params) view.name) R e
    → HasRefusal (SpecGives (attribute_issuing p)) (attribute_refusal e)
refused p params view R e says is_view never why =
    by_error p params R e says never
    (subst (λ (v : IssuerView). ExplainsAttribute (first_attribute_cause (attribute_certificate_view params) v.name) R e) is_view why)
