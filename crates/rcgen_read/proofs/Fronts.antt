-- The element at the start of bytes, by what is read there.
use Rattle.std.specs.Prelude.{◌≡◌, ℕ, List, ◌++◌, Option, Some, None, Err, ◌↔◌, IsErrOf, refl}
use Rattle.std.proofs.Common.{ap, sym, subst, ◌∙◌}
use Rattle.asn1_core.specs.Binds.{bind_is, bind_some, some_is}
use Rattle.der_tree.specs.Codec.{Codec}
use Rattle.der_tree.specs.Element.{Element, element_at, element_octets}
use Rattle.der_tree.specs.Form.{IsDerOf}
use Rattle.der_tree.specs.Fronts.{BeginsWith, IsFront, IsMalformed}
use Rattle.der_tree.specs.declared.error.WindowFault.{WindowFault}
use Rattle.der_tree.specs.declared.error.WindowFault.TheVariants.{Incomplete, Malformed}
use Rattle.der_tree.specs.laws.Element.{element_again, element_takes}
use Rattle.der_tree.proofs.FrontLaws.{begun_is_no_front}
use Rattle.rcgen_read.specs.ReceivedRequests.{front_at, front_value}
use Rattle.der_tree.proofs.ReadFields.{form_of_read}
use Rattle.rcgen_read.proofs.ReadParts.{form_in_front}

pub begun : (b : List ℕ) (s : Element) (rest : List ℕ) → BeginsWith b s rest → Some s ≡ front_at b
begun b s rest h = sym (bind_is (element_at b) (λ x. Some x.0) (s, rest) (Some s) (ap element_at h.1 ∙ element_again s rest h.0) refl)

none_where : {A : Type 0} (o : Option A) → ((x : A) → o ≡ Some x → ⊥) → None ≡ o
none_where None h = refl
none_where (Some x) h = absurd (h x refl)

begins : (b : List ℕ) (s : Element) → front_at b ≡ Some s → (rest : List ℕ) × BeginsWith b s rest
begins b s e =
    let x = bind_some (element_at b) (λ x. Some x.0) s e in
    let t = element_takes b x.0.0 x.0.1 x.1 in
    (x.0.1, subst (λ (y : Element). BeginsWith b y x.0.1) (some_is x.0.0 s x.2) (t.1, t.0))

pub refused : {T : Type 0} (b : List ℕ) (e : WindowFault) → (IsErrOf {T = T} (Err e) Incomplete ↔ IsFront b)
    → (IsErrOf {T = T} (Err e) Malformed ↔ IsMalformed b) → None ≡ front_at b
refused b Incomplete front bad = none_where (front_at b) (λ s k. let x = begins b s k in begun_is_no_front b s x.0 x.1 (front.0 refl))
refused b Malformed front bad = none_where (front_at b) (λ s k. let x = begins b s k in (bad.0 refl).1 s x.0 x.1)

-- ---- values

in_front : {A : Type 0} (c : Codec A) (bytes : List ℕ) (v : A) → front_value c bytes ≡ Some v → (b rest : List ℕ) × IsDerOf c v b × (bytes ≡ b ++ rest)
in_front c bytes v e =
    let x = bind_some (front_at bytes) c.read_of v e in
    let k = begins bytes x.0 x.1 in
    (element_octets x.0, k.0, form_of_read c x.0 v k.1.0 x.2, k.1.1)

again : {A : Type 0} (c : Codec A) (bytes : List ℕ) (v : A) → ((b rest : List ℕ) × IsDerOf c v b × (bytes ≡ b ++ rest)) → front_value c bytes ≡ Some v
again c bytes v h =
    let f = h.2 in
    bind_is (front_at bytes) c.read_of f.1 (Some v) (ap front_at h.3 ∙ form_in_front c v h.0 h.1 f) (c.again v f.0 f.1 f.2 f.3)

pub exactly : {A : Type 0} (c : Codec A) (bytes : List ℕ) (v : A)
    → (front_value c bytes ≡ Some v) ↔ ((b rest : List ℕ) × IsDerOf c v b × (bytes ≡ b ++ rest))
exactly c bytes v = (in_front c bytes v, again c bytes v)
