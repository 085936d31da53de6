-- The certificate whose form some bytes are, and its listing.
use Rattle.std.specs.Prelude.{◌↔◌, IsSome}
use Rattle.std.proofs.Common.{◌≡◌, ◌==◌, ℕ, List, [], ◌∷◌, ◌++◌, length, Bool, true, false, Option, Some, None, sym, ◌∙◌, ap, refl, subst, arith}
use Rattle.std.proofs.lemmas.Bool.{false≢true, eqb-true}
use Rattle.std.proofs.lemmas.List.{append-nil}
use Rattle.der_tree.specs.Form.{IsDerOf}
use Rattle.pkix_cert.specs.Certificates.{certificate}
use Rattle.pkix_cert.specs.Held.{IsOfCertificate}
use Rattle.pkix_cert.specs.Views.{CertificateParts, certificate_parts}
use Rattle.pkix_cert.specs.declared.certificate.Certificate.{Certificate}
use Rattle.certify_core.specs.ListedParts.{listing_in}
use Rattle.certify_core.specs.Listing.{listing}
use Rattle.certify_core.proofs.ListedParts.{listing_is}

-- the law that no form begins another
abbrev pub NoFront : Type 0
NoFront = (v w : Certificate) (a b rest : List ℕ) → IsDerOf certificate v a → IsDerOf certificate w b → b ≡ a ++ rest → rest ≡ []

no_rest : {b : Bool} (rest : List ℕ) → b ≡ true → b ≡ (length rest == 0) → rest ≡ []
no_rest [] t e = refl
no_rest (x ∷ rest) t e = absurd (omega (arith, eqb-true (length (x ∷ rest)) 0 (sym e ∙ t)))

some_rest : {b : Bool} (rest : List ℕ) → b ≡ false → b ≡ (length rest == 0) → rest ≡ [] → ⊥
some_rest [] f e h = false≢true (sym f ∙ e)
some_rest (x ∷ rest) f e h = absurd cc

-- the law that a view's parts are a certificate's
abbrev pub EachView : Type 0
EachView = (input : List ℕ) (p : CertificateParts) → certificate_parts input ≡ Some p → (c : Certificate) × IsOfCertificate c p × (input ≡ p.whole ++ p.after)

-- the certificate whose form the bytes are, and its listing
abbrev pub Listed : List ℕ → List ℕ → Type 0
Listed bytes text = (c : Certificate) × IsDerOf certificate c bytes × (text ≡ listing c)

-- where no front is a certificate's form, neither are the bytes
pub none_at_all : {T : Type 0} (bytes : List ℕ) (o : Option T)
    → (IsSome o ↔ ((c : Certificate) × (b rest : List ℕ) × IsDerOf certificate c b × (bytes ≡ b ++ rest))) → o ≡ None
    → (c : Certificate) → IsDerOf certificate c bytes → ⊥
none_at_all bytes None exact e c f = let k : false ≡ true = exact.1 (c, bytes, [], f, sym (append-nil bytes)) in absurd cc
none_at_all bytes (Some x) exact e c f = absurd cc

-- where something is left after a certificate's form, the bytes aren't the form of any certificate
pub none_with_rest : {t : Bool} → NoFront → EachView → (bytes rest : List ℕ) (p : CertificateParts) → Some p ≡ certificate_parts bytes → rest ≡ p.after
    → t ≡ false → t ≡ (length rest == 0) → (c : Certificate) → IsDerOf certificate c bytes → ⊥
none_with_rest law each bytes rest p is after d e c f =
    let x = each bytes p (sym is) in
    some_rest rest d e (after ∙ law x.0 c p.whole bytes p.after x.1.whole f x.2)

-- where nothing is left, they are that
pub whole_listed : {t : Bool} → EachView → (bytes rest text : List ℕ) (p : CertificateParts) → Some p ≡ certificate_parts bytes → rest ≡ p.after
    → t ≡ true → t ≡ (length rest == 0) → text ≡ listing_in p → Listed bytes text
whole_listed each bytes rest text p is after d e lines =
    let x = each bytes p (sym is) in
    let none : p.after ≡ [] = sym after ∙ no_rest rest d e in
    let whole : p.whole ≡ bytes = sym (x.2 ∙ ap (λ (r : List ℕ). p.whole ++ r) none ∙ append-nil p.whole) in
    (x.0, subst (λ (b : List ℕ). IsDerOf certificate x.0 b) whole x.1.whole, lines ∙ listing_is x.0 p x.1)
