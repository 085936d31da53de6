-- Equality of purposes, as derives write it.
use Rattle.std.specs.Prelude.{◌≡◌, true, false, List, ℕ, refl}
use Rattle.std.proofs.Common.{ap, ◌∙◌}
use Rattle.rcgen_certificate.specs.ExtendedKeyUsages.{Purpose, other, purpose_of, same_purpose, same_purpose_equiv, IsNamed}
use Rattle.rcgen_certificate.specs.contracts.extended_key_usage.ExtendedKeyUsagePurposePartialEq.TheImpl.{ghosts as purposes}
use Rattle.rcgen_certificate.specs.declared.extended_key_usage.ExtendedKeyUsagePurpose.{ExtendedKeyUsagePurpose}
use Rattle.rcgen_certificate.specs.declared.extended_key_usage.ExtendedKeyUsagePurpose.TheVariants.{Any, ServerAuth, ClientAuth, CodeSigning}
use Rattle.rcgen_certificate.specs.declared.extended_key_usage.ExtendedKeyUsagePurpose.TheVariants.{EmailProtection, TimeStamping, OcspSigning, Other}

pub purposes_same : (p q : ExtendedKeyUsagePurpose) → purposes.eq p q ≡ same_purpose (purpose_of p) (purpose_of q)
purposes_same Any Any = refl
purposes_same ServerAuth ServerAuth = refl
purposes_same ClientAuth ClientAuth = refl
purposes_same CodeSigning CodeSigning = refl
purposes_same EmailProtection EmailProtection = refl
purposes_same TimeStamping TimeStamping = refl
purposes_same OcspSigning OcspSigning = refl
purposes_same (Other a) (Other b) = refl
purposes_same _ _ = refl

-- what has the same view is equal
pub purposes_equal : (p q : ExtendedKeyUsagePurpose) → purpose_of p ≡ purpose_of q → purposes.eq p q ≡ true
purposes_equal p q e = purposes_same p q ∙ (ap (λ (x : Purpose). same_purpose x (purpose_of q)) e ∙ same_purpose_equiv.refl (purpose_of q))

pub is_another : (arcs : List ℕ) (p : Purpose) → IsNamed p → same_purpose (other arcs) p ≡ false
is_another arcs (other b) h = absurd h
is_another arcs _ h = refl
