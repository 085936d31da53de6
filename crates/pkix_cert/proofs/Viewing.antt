-- A certificate at the front of the input, and its parts there.
use Rattle.std.specs.Prelude.{◌≡◌, ◌↔◌, ℕ, Bool, false, true, cond, List, [], ◌∷◌, ◌++◌, ◌+◌, drop, Option, Some, None, is_some, IsErrOf, Err, refl}
use Rattle.std.specs.List.{slice_get}
use Rattle.std.specs.Option.{option_map, option_or}
use Rattle.std.proofs.Common.{ap, sym, ◌∙◌}
use Rattle.std.proofs.lemmas.List.{drop-drop}
use Rattle.asn1_core.specs.Binds.{◌>>=◌}
use Rattle.der_tree.specs.Codec.{Codec}
use Rattle.der_tree.specs.Element.{Element, element_at, element_octets}
use Rattle.der_tree.specs.Form.{IsDerOf}
use Rattle.der_tree.specs.Fronts.{BeginsWith, IsFront, IsMalformed}
use Rattle.der_tree.specs.SetOf.{octets_in}
use Rattle.der_tree.specs.Windows.{shown}
use Rattle.der_tree.specs.declared.error.WindowFault.{WindowFault}
use Rattle.der_tree.specs.declared.error.WindowFault.TheVariants.{Incomplete, Malformed}
use Rattle.der_tree.specs.declared.window.Window.{Window}
use Rattle.der_tree.specs.laws.Element.{element_again, element_takes}
use Rattle.der_tree.specs.laws.TreeElement.{element_of_encodable}
use Rattle.der_tree.proofs.FrontLaws.{begun_is_no_front}
use Rattle.pkix_cert.specs.Certificates.{certificate}
use Rattle.pkix_cert.specs.Shown.{value_in}
use Rattle.pkix_cert.specs.Views.{certificate_parts, last_from, last_of, octets_at, parts_of}
use Rattle.pkix_cert.specs.declared.certificate.Certificate.{Certificate}
use Rattle.pkix_cert.proofs.Seeing.{seen_is}
use Rattle.pkix_cert.proofs.Unread.{place_behind}

-- ---- the element at the front

pub begun : (b : List ℕ) (s : Element) (rest : List ℕ) → BeginsWith b s rest → Some (s, rest) ≡ element_at b
begun b s rest h = sym (ap element_at h.1 ∙ element_again s rest h.0)

none_where : {A : Type 0} (o : Option A) → ((x : A) → o ≡ Some x → ⊥) → None ≡ o
none_where None h = refl
none_where (Some x) h = absurd (h x refl)

begins : (b : List ℕ) (x : Element × List ℕ) → element_at b ≡ Some x → BeginsWith b x.0 x.1
begins b x e = let t = element_takes b x.0 x.1 e in (t.1, t.0)

pub refused : {T : Type 0} (b : List ℕ) (e : WindowFault) → (IsErrOf {T = T} (Err e) Incomplete ↔ IsFront b)
    → (IsErrOf {T = T} (Err e) Malformed ↔ IsMalformed b) → None ≡ element_at b
refused b Incomplete front bad = none_where (element_at b) (λ x k. begun_is_no_front b x.0 x.1 (begins b x k) (front.0 refl))
refused b Malformed front bad = none_where (element_at b) (λ x k. (bad.0 refl).1 x.0 x.1 (begins b x k))

-- ---- a value at the front

module _ {A B : Type 0} (c : Codec A) (make : Element → List ℕ → B) where
  -- what is made of the element at the front, where it shows a value
  abbrev at_front : Option (Element × List ℕ) → Option B
  at_front o = o >>= λ x. cond (is_some (c.read_of x.0)) (Some (make x.0 x.1)) None

  kept_there : (b : Bool) (y : B) → is_some (cond b (Some y) None) ≡ true → b ≡ true
  kept_there true y e = refl
  kept_there false y e = absurd cc

  found_at : (o : Option (Element × List ℕ)) → is_some (at_front o) ≡ true
      → (x : Element × List ℕ) × (o ≡ Some x) × (is_some (c.read_of x.0) ≡ true)
  found_at None e = absurd cc
  found_at (Some x) e = (x, refl, kept_there (is_some (c.read_of x.0)) (make x.0 x.1) e)

  found : (input : List ℕ) → is_some (at_front (element_at input)) ≡ true → (v : A) × (b rest : List ℕ) × IsDerOf c v b × (input ≡ b ++ rest)
  found input e =
      let x = found_at (element_at input) e in
      let k = element_takes input x.0.0 x.0.1 x.1 in
      let t = c.takes x.0.0 (value_in c x.0.0) k.1 (seen_is c x.0.0 x.2) in
      (value_in c x.0.0, element_octets x.0.0, x.0.1, (t.0, x.0.0, t.1, t.2, refl), k.0)

  there : (input : List ℕ) → ((v : A) × (b rest : List ℕ) × IsDerOf c v b × (input ≡ b ++ rest)) → is_some (at_front (element_at input)) ≡ true
  there input h =
      let f = h.3 in
      let front : element_at input ≡ Some (f.1, h.2) =
      ap element_at (h.4 ∙ ap (λ (b : List ℕ). b ++ h.2) f.4) ∙ element_again f.1 h.2 (element_of_encodable f.0 f.1 f.3) in
      ap (λ (o : Option (Element × List ℕ)). is_some (at_front o)) front
      ∙ ap (λ (o : Option A). is_some (cond (is_some o) (Some (make f.1 h.2)) None)) (c.again h.0 f.0 f.1 f.2 f.3)

pub certificate_there : (input : List ℕ)
    → (is_some (certificate_parts input) ≡ true) ↔ ((c : Certificate) × (b rest : List ℕ) × IsDerOf certificate c b × (input ≡ b ++ rest))
unfolding certificate_parts
certificate_there input = (found certificate parts_of input, there certificate parts_of input)

-- ---- places

shown_or : (a b : Option Window) → option_map shown (option_or a b) ≡ option_or (option_map shown a) (option_map shown b)
shown_or None b = refl
shown_or (Some w) b = refl

last_at : (ss : List Element) → last_from (option_or (slice_get (drop 1 ss) 0) (slice_get ss 0)) (drop 1 (drop 1 ss)) ≡ last_of ss
last_at [] = refl
last_at (s ∷ []) = refl
last_at (s ∷ t ∷ ss) = refl

-- the last one, after the first two
pub last_is : (ss rest : List Element) (first second : Option Window) → option_map shown first ≡ slice_get ss 0
    → option_map shown second ≡ slice_get (drop 1 ss) 0 → rest ≡ drop 1 (drop 1 ss) → last_from (option_map shown (option_or second first)) rest ≡ last_of ss
last_is ss rest first second e f h = rw (shown_or, e, f, h) (last_at ss)

pub ruleset lasts = (last_is)

-- what is at a place, counted from a later one
pub stands_behind : (ss all : List Element) (j : ℕ) (b : List ℕ) → b ≡ octets_at 0 ss → ss ≡ drop j all → b ≡ octets_at j all
stands_behind ss all j b h e = h ∙ ap (λ (x : List Element). octets_in (slice_get x 0)) e ∙ ap octets_in (place_behind j all)

pub behind_more : (ss more all : List Element) (j k : ℕ) → k ≡ j + 1 → more ≡ drop 1 ss → ss ≡ drop j all → more ≡ drop k all
behind_more ss more all j k p h e = h ∙ ap (drop 1) e ∙ drop-drop 1 j all ∙ ap (λ (i : ℕ). drop i all) (sym p)
