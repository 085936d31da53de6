-- The certificates at the start of an input are determined by it, and a view is of the one at the start.
use Rattle.std.specs.Prelude.{List, None, Some, length, refl, suc, ℕ, [], ◌++◌, ◌<◌, ◌∷◌, ◌≡◌}
use Rattle.std.proofs.Common.{ap, arith, subst, sym, ◌∙◌}
use Rattle.std.proofs.lemmas.List.{append-nil, length-append}
use Rattle.asn1_core.specs.Binds.{some_is}
use Rattle.der_tree.specs.Element.{Element, element_at, identifier_at}
use Rattle.der_tree.specs.Form.{IsDerOf}
use Rattle.der_tree.proofs.FormLaws.{front_is}
use Rattle.pkix_cert.specs.Certificates.{certificate}
use Rattle.pkix_cert.specs.Held.{IsOfCertificate}
use Rattle.pkix_cert.specs.Views.{CertificateParts, certificate_parts, parts_of}
use Rattle.pkix_cert.specs.declared.certificate.Certificate.{Certificate}
use Rattle.pkix_cert.proofs.Slices.{parts_are_of}
use Rattle.chain_check.specs.Answers.{AreViews, IsOnlyView}
use Rattle.chain_check.specs.Inputs.{BeginsWith, BeginsWithAll, BeginsWithCertificate, IsCertificate}

-- ---- one certificate at the start

nothing : element_at [] ≡ None
unfolding element_at identifier_at
nothing = refl

no_some : {B : Type 0} (x : B) → Some x ≡ None → ⊥
no_some x e = cc

pub none_in_front : BeginsWithCertificate [] → ⊥
none_in_front h = no_some _ (sym (front_is certificate [] h.0 h.2.form h.1 h.2.is_form h.2.parts).0 ∙ nothing)

pub one_front : (c d : Certificate) (octets a b : List ℕ) → BeginsWith c octets a → BeginsWith d octets b → (c ≡ d) × (a ≡ b)
one_front c d octets a b h k =
    let p = front_is certificate octets c h.form a h.is_form h.parts in
    let q = front_is certificate octets d k.form b k.is_form k.parts in
    let same : ◌≡◌ {A = Element × List ℕ} (h.is_form.1, a) (k.is_form.1, b) = some_is (h.is_form.1, a) (k.is_form.1, b) (sym p.0 ∙ q.0) in
    let s : h.is_form.1 ≡ k.is_form.1 = ap (λ (x : Element × List ℕ). x.0) same in
    (some_is c d (sym p.1 ∙ ap certificate.read_of s ∙ q.1), ap (λ (x : Element × List ℕ). x.1) same)

-- ---- all of them

abbrev pub Ends : List ℕ → Type 0
Ends rest = ¬ (BeginsWithCertificate rest)

pub one_stop : (cs ds : List Certificate) (octets r s : List ℕ) → BeginsWithAll cs octets r → Ends r → BeginsWithAll ds octets s → Ends s → (cs ≡ ds) × (r ≡ s)
one_stop [] [] octets r s h e k f = (refl, sym h ∙ k)
one_stop [] (d ∷ ds) octets r s h e k f = absurd (e (d, k.0, subst (λ (x : List ℕ). BeginsWith d x k.0) h k.1))
one_stop (c ∷ cs) [] octets r s h e k f = absurd (f (c, h.0, subst (λ (x : List ℕ). BeginsWith c x h.0) k h.1))
one_stop (c ∷ cs) (d ∷ ds) octets r s h e k f =
    let p = one_front c d octets h.0 k.0 h.1 k.1 in
    let q = one_stop cs ds k.0 r s (subst (λ (x : List ℕ). BeginsWithAll cs x r) p.1 h.2) e k.2 f in
    (ap (λ (x : Certificate). x ∷ cs) p.0 ∙ ap (λ (xs : List Certificate). d ∷ xs) q.0, q.1)

-- ---- views

-- each is of its certificate
abbrev pub AreOf : List Certificate → List CertificateParts → Type 0
AreOf [] [] = Unit {0}
AreOf [] (p ∷ ps) = ⊥
AreOf (c ∷ cs) [] = ⊥
AreOf (c ∷ cs) (p ∷ ps) = IsOfCertificate c p × AreOf cs ps

pub same_length : (cs : List Certificate) (ps : List CertificateParts) → AreOf cs ps → length ps ≡ length cs
same_length [] [] h = refl
same_length [] (p ∷ ps) h = absurd h
same_length (c ∷ cs) [] h = absurd h
same_length (c ∷ cs) (p ∷ ps) h = ap suc (same_length cs ps h.1)

pub both : (cs ds : List Certificate) (ps qs : List CertificateParts) → AreOf cs ps → AreOf ds qs → AreOf (cs ++ ds) (ps ++ qs)
both [] ds [] qs h k = k
both [] ds (p ∷ ps) qs h k = absurd h
both (c ∷ cs) ds [] qs h k = absurd h
both (c ∷ cs) ds (p ∷ ps) qs h k = (h.0, both cs ds ps qs h.1 k)

-- the certificate that the view of an input is of
pub viewed : (octets : List ℕ) (p : CertificateParts) → certificate_parts octets ≡ Some p → (c : Certificate) × IsOfCertificate c p × BeginsWith c octets p.after
viewed octets p e =
    let k = parts_are_of octets p e in
    (k.0, k.1, record { form = p.whole; is_form = k.1.whole; parts = k.2 })

pub certificates_of : (ps : List CertificateParts) (octets rest : List ℕ) → AreViews ps octets rest
    → (cs : List Certificate) × BeginsWithAll cs octets rest × AreOf cs ps
certificates_of [] octets rest h = ([], h, tt)
certificates_of (p ∷ ps) octets rest h =
    let k = viewed octets p h.0 in
    let more = certificates_of ps p.after rest h.1 in
    (k.0 ∷ more.0, (p.after, k.2, more.1), (k.1, more.2))

-- where a certificate is at the start, there is a view
pub view_is : (c : Certificate) (octets after : List ℕ) → BeginsWith c octets after → (s : Element) × (certificate_parts octets ≡ Some (parts_of s after))
unfolding certificate_parts
view_is c octets after h =
    let p = front_is certificate octets c h.form after h.is_form h.parts in
    (h.is_form.1, rw (p.0, p.1) refl)

pub without_view : (octets : List ℕ) → certificate_parts octets ≡ None → ¬ (BeginsWithCertificate octets)
without_view octets e h = no_some _ (sym (view_is h.0 octets h.1 h.2).1 ∙ e)

whole_front : (c : Certificate) (octets : List ℕ) → IsDerOf certificate c octets → BeginsWith c octets []
whole_front c octets h = record { form = octets; is_form = h; parts = sym (append-nil octets) }

after_is : (s : Element) (after : List ℕ) → (parts_of s after).after ≡ after
unfolding parts_of
after_is s after = refl

pub without_only_view : (octets : List ℕ) → IsOnlyView octets None → ¬ (IsCertificate octets)
without_only_view octets h k =
    let v = view_is k.0 octets [] (whole_front k.0 octets k.1) in
    h (parts_of v.0 []) v.1 (after_is v.0 [])

pub only_view : (octets : List ℕ) (p : CertificateParts) → certificate_parts octets ≡ Some p → p.after ≡ []
    → (c : Certificate) × IsOfCertificate c p × IsDerOf certificate c octets
only_view octets p e f =
    let k = viewed octets p e in
    let same : octets ≡ k.2.form = k.2.parts ∙ ap (λ (x : List ℕ). k.2.form ++ x) f ∙ append-nil k.2.form in
    (k.0, k.1, subst (λ (x : List ℕ). IsDerOf certificate k.0 x) (sym same) k.2.is_form)

-- ---- a view more

pub views_more : (ps : List CertificateParts) (octets rest : List ℕ) (p : CertificateParts) → AreViews ps octets rest → certificate_parts rest ≡ Some p
    → AreViews (ps ++ p ∷ []) octets p.after
views_more [] octets rest p h e = (ap certificate_parts h ∙ e, refl)
views_more (q ∷ ps) octets rest p h e = (h.0, views_more ps q.after rest p h.1 e)

longer : (form after : List ℕ) → ¬ (form ≡ []) → length after < length (form ++ after)
longer [] after some = absurd (some refl)
longer (b ∷ bs) after some = let e = length-append (b ∷ bs) after in omega arith

pub shorter : (octets : List ℕ) (p : CertificateParts) → certificate_parts octets ≡ Some p → length p.after < length octets
shorter octets p e =
    let k = viewed octets p e in
    let some : ¬ (k.2.form ≡ []) = (λ f. none_in_front (k.0, [], whole_front k.0 [] (subst (λ (x : List ℕ). IsDerOf certificate k.0 x) f k.2.is_form))) in
    subst (λ (x : List ℕ). length p.after < length x) (sym k.2.parts) (longer k.2.form p.after some)
