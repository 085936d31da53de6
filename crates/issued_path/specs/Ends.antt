-- Paths that end in a certificate that was issued (RFC 5280, 6.1).
use Rattle.std.specs.Prelude.{List, None, Option, Some, false, length, true, ℕ, ◌+◌, ◌<◌, ◌≤◌, [], ◌++◌, ◌∷◌, ◌≡◌, ◌⊎◌}
use Rattle.asn1_core.specs.Binds.{◌>>=◌}
use Rattle.der_tree.specs.Form.{IsDerOf}
use Rattle.pkix_cert.specs.Algorithms.{subject_public_key_info}
use Rattle.pkix_cert.specs.Certificates.{certificate}
use Rattle.pkix_cert.specs.Views.{CertificateParts, certificate_parts}
use Rattle.pkix_cert.specs.declared.certificate.Certificate.{Certificate}
use Rattle.pkix_name.specs.declared.name.Name.{Name}
use Rattle.path_revocation.specs.Lists.{Accepts}
use Rattle.path_validation.specs.Certificates.{read_certificate}
use Rattle.path_validation.specs.Keys.{inherits}
use Rattle.path_validation.specs.Limits.{count_of, has_few_attributes}
use Rattle.path_validation.specs.Outcomes.{Outcome, invalid, outcome, state_behind, valid}
use Rattle.path_validation.specs.States.{first_state}
use Rattle.path_validation.specs.declared.error.PathReason.{PathReason}
use Rattle.path_validation.specs.declared.inputs.PathInputs.{PathInputs}
use Rattle.path_validation.specs.declared.inputs.ValidPath.{ValidPath}
use Rattle.rcgen_certificate.specs.Issuers.{IssuerView}
use Rattle.rcgen_certificate.specs.ParamsView.{ParamsView}
use Rattle.rcgen_tbs.specs.Named.{IsCertificateOverAs}
use Rattle.rcgen_tbs.specs.declared.subject.Subject.{Subject}
use Rattle.issued_path.specs.Types.{PathState, ReadCertificate}
use Rattle.issued_path.specs.Causes.{Cause, IsAccepted, IsAfter, IsBefore, IsWorking, is_wide_subject}

-- der is a certificate that was issued over the message for the parameters and the subject, under a name of its own where it has one, with a signature that
-- the verifier accepts under the issuer's key
pub record IsIssuedUnder (params : ParamsView) (subject : Subject) (name : Option Name) (issuer : IssuerView) (accepts : Accepts) (message der : List ℕ) : Type 0 where
  pub signature : List ℕ
  pub issued : IsCertificateOverAs params subject name issuer (λ m s. s ≡ signature) message der
  pub accepted : IsAccepted accepts issuer message signature

-- ---- under a trust anchor

-- the path of one certificate is valid, or a step fails for a cause of this kind
abbrev pub EndsAlone : (PathReason → Type 0) → Outcome → Type 0
EndsAlone C (valid v) = Unit {0}
EndsAlone C (invalid i r) = (i ≡ 1) × C r

-- where the trust anchor has the name and the key of the issuer
pub record IsAnchor (issuer : IssuerView) (x : PathInputs) : Type 0 where
  pub name : issuer.name ≡ Some x.anchor.name
  pub key : IsDerOf subject_public_key_info x.anchor.key_info issuer.info

abbrev pub IsAcceptedUnderItsAnchor : Type 0
IsAcceptedUnderItsAnchor =
    (params : ParamsView) (subject : Subject) (name : Option Name) (issuer : IssuerView) (accepts : Accepts) (message der : List ℕ)
    → IsIssuedUnder params subject name issuer accepts message der → (x : PathInputs) → IsAnchor issuer x
    → (p : CertificateParts) × (certificate_parts der ≡ Some p) × EndsAlone (Cause x 0 (first_state x 1) params name) (outcome accepts x (p ∷ []))

-- no cause is there: the time is within the validity, no status and no explicit policy is asked, no subtree constrains names, there is no extension of the
-- issuer's own, and neither the names' attributes nor the user's policies are too many to compare
pub record IsPlain (params : ParamsView) (name : Option Name) (x : PathInputs) : Type 0 where
  pub started : IsBefore x.at params → ⊥
  pub not_over : IsAfter x.at params → ⊥
  pub statuses : x.statuses ≡ None
  pub explicit_policy : x.initial_explicit_policy ≡ false
  pub permitted : x.initial_permitted_subtrees ≡ []
  pub excluded : x.initial_excluded_subtrees ≡ []
  pub own : params.custom_extensions ≡ []
  pub narrow : has_few_attributes x.anchor.name ≡ true
  pub narrow_subject : is_wide_subject name ≡ false
  pub few_policies : count_of x.user_initial_policy_set ≤ 32000

abbrev pub PlainIsValid : Type 0
PlainIsValid =
    (params : ParamsView) (subject : Subject) (name : Option Name) (issuer : IssuerView) (accepts : Accepts) (message der : List ℕ)
    → IsIssuedUnder params subject name issuer accepts message der → (x : PathInputs) → IsAnchor issuer x → IsPlain params name x
    → (p : CertificateParts) × (v : ValidPath) × (certificate_parts der ≡ Some p) × (outcome accepts x (p ∷ []) ≡ valid v)

-- ---- after other certificates

-- the state that certificates leave one after the other, where each can be read
abbrev pub state_after : PathState → List CertificateParts → Option PathState
state_after s [] = Some s
state_after s (p ∷ ps) = read_certificate p >>= λ c. state_after (state_behind s c) ps

-- a path is valid, or a step fails at one of so many certificates, or at the one after them for a cause of this kind
abbrev pub EndsWith : ℕ → (PathReason → Type 0) → Outcome → Type 0
EndsWith before C (valid v) = Unit {0}
EndsWith before C (invalid i r) = ((0 < i) × (i ≤ before)) ⊎ ((i ≡ before + 1) × C r)

-- after any certificates that leave the issuer's name and key
abbrev pub IsAcceptedInItsPath : Type 0
IsAcceptedInItsPath =
    (params : ParamsView) (subject : Subject) (name : Option Name) (issuer : IssuerView) (accepts : Accepts) (message der : List ℕ)
    → IsIssuedUnder params subject name issuer accepts message der
    → (x : PathInputs) (before : List CertificateParts) (s : PathState) → state_after (first_state x (length before + 1)) before ≡ Some s → IsWorking issuer s
    → (p : CertificateParts) × (certificate_parts der ≡ Some p) × EndsWith (length before) (Cause x (length before) s params name) (outcome accepts x (before ++ p ∷ []))

-- ---- beneath the issuer's certificate

-- the octets are the issuer's certificate
pub record IsCertified (issuer : IssuerView) (c : Certificate) (octets : List ℕ) : Type 0 where
  pub form : IsDerOf certificate c octets
  pub name : issuer.name ≡ Some c.tbs_certificate.subject
  pub key : IsDerOf subject_public_key_info c.tbs_certificate.subject_public_key_info issuer.info

-- a cause in the state that the issuer's certificate leaves, where it can be read
abbrev pub CauseBeneath : PathInputs → CertificateParts → ParamsView → Option Name → PathReason → Type 0
CauseBeneath x q params name r = (d : ReadCertificate) × (read_certificate q ≡ Some d) × Cause x 1 (state_behind (first_state x 2) d) params name r

-- the path of both is valid, or a step fails at the issuer's certificate, or at the other for a cause; where the issuer's key has parameters of its own, or those
-- of the anchor's key aren't its (6.1.4 (e))
abbrev pub IsAcceptedBeneathItsIssuer : Type 0
IsAcceptedBeneathItsIssuer =
    (params : ParamsView) (subject : Subject) (name : Option Name) (issuer : IssuerView) (accepts : Accepts) (message der : List ℕ)
    → IsIssuedUnder params subject name issuer accepts message der
    → (c : Certificate) (octets : List ℕ) → IsCertified issuer c octets
    → (x : PathInputs) → inherits x.anchor.key_info c.tbs_certificate.subject_public_key_info ≡ false
    → (q p : CertificateParts) × (certificate_parts octets ≡ Some q) × (certificate_parts der ≡ Some p)
    × EndsWith 1 (CauseBeneath x q params name) (outcome accepts x (q ∷ p ∷ []))
