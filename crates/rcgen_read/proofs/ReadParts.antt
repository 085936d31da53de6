-- What an element shows that was read: its parts, of which it has the forms.
use Rattle.std.specs.Prelude.{◌≡◌, ◌↔◌, ℕ, Bool, true, false, cond, List, [], ◌∷◌, ◌++◌, Option, Some, None, refl}
use Rattle.std.specs.List.{slice_get}
use Rattle.std.proofs.Common.{ap, subst, sym, ◌∙◌}
use Rattle.asn1_core.specs.Binds.{bind_is, bind_some, kept_unless, some_is, ◌>>=◌}
use Rattle.der_tree.specs.Codec.{Codec, FieldsOf}
use Rattle.der_tree.specs.Default.{default_get, default_with, or_default}
use Rattle.der_tree.specs.Element.{Element, children_of, element_at, is_encodable}
use Rattle.der_tree.specs.Fields.{then_get}
use Rattle.der_tree.specs.Form.{IsDerOf}
use Rattle.der_tree.specs.Grammar.{optional, with_default}
use Rattle.der_tree.specs.Optional.{absent_with, optional_get, present_with}
use Rattle.der_tree.specs.Tags.{has}
use Rattle.der_tree.specs.laws.Element.{element_again, element_takes}
use Rattle.der_tree.specs.laws.TreeElement.{element_of_encodable}
use Rattle.rcgen_read.specs.ReceivedRequests.{child, front_at}

pub front_encodable : (bytes : List ℕ) (s : Element) → front_at bytes ≡ Some s → is_encodable s ≡ true
front_encodable bytes s e =
    let x = bind_some (element_at bytes) (λ x. Some x.0) s e in
    subst (λ (y : Element). is_encodable y ≡ true) (some_is x.0.0 s x.2) (element_takes bytes x.0.0 x.0.1 x.1).1

pub child_is : (place : ℕ) (s : Element) (ss : List Element) (c : Element) → children_of s ≡ Some ss → slice_get ss place ≡ Some c → child place s ≡ Some c
child_is place s ss c e h = bind_is (children_of s) (λ ss. slice_get ss place) ss (Some c) e h

-- ---- a field with a default that isn't the value

default_apart : {A : Type 0} (eq : A → A → Bool) → ((a b : A) → (eq a b ≡ true) ↔ (a ≡ b)) → (d v : A) (o : Option A) → or_default eq d o ≡ Some v
    → eq v d ≡ false → o ≡ Some v
default_apart {A} eq exact d v None e h =
    absurd (let k : eq v d ≡ true = (exact v d).1 (sym (some_is d v e)) in cc)
default_apart eq exact d v (Some w) e h = (kept_unless (eq w d) (Some w) v e).1

not_there : {A : Type 0} (v : A) (ss rest : List Element) → absent_with ss ≡ Some (Some v, rest) → ⊥
not_there {A} v ss rest e =
    let k : None ≡ Some v = ap (λ (p : Option A × List Element). p.0) (some_is (None, ss) (Some v, rest) e) in absurd cc

option_by : {A : Type 0} (c : Codec A) (s : Element) (ss : List Element) (v : A) (rest : List Element) (b : Bool)
    → cond b (c.read_of s >>= present_with ss) (absent_with (s ∷ ss)) ≡ Some (Some v, rest) → s ∷ ss ≡ s ∷ rest
option_by {A} c s ss v rest true h =
    let x = bind_some (c.read_of s) (present_with ss) (Some v, rest) h in
    ap (λ (p : Option A × List Element). s ∷ p.1) (some_is (Some x.0, ss) (Some v, rest) x.2)
option_by c s ss v rest false h = absurd (not_there v (s ∷ ss) rest h)

option_is : {A : Type 0} (c : Codec A) (ss : List Element) (v : A) (rest : List Element) → optional_get c ss ≡ Some (Some v, rest)
    → (s : Element) × (ss ≡ s ∷ rest)
option_is c [] v rest e = absurd (not_there v [] rest e)
option_is c (s ∷ ss) v rest e = (s, option_by c s ss v rest (has c.starts s.tag) e)

pub default_first : {A B : Type 0} (c : Codec A) (eq : A → A → Bool) (exact : (a b : A) → (eq a b ≡ true) ↔ (a ≡ b)) (d : A) (g : FieldsOf B)
    (ss : List Element) (v : A × B) (rest : List Element) → then_get (with_default c eq exact d) g ss ≡ Some (v, rest) → eq v.0 d ≡ false
    → (s : Element) × (mid : List Element) × (ss ≡ s ∷ mid) × (g.get mid ≡ Some (v.1, rest))
default_first {A} {B} c eq exact d g ss v rest e h =
    let x = bind_some (default_get (optional c) eq d ss) (λ x. g.get x.1 >>= λ y. Some ((x.0, y.0), y.1)) (v, rest) e in
    let y = bind_some (g.get x.0.1) (λ y. Some ((x.0.0, y.0), y.1)) (v, rest) x.2 in
    let same = some_is ((x.0.0, y.0.0), y.0.1) (v, rest) y.2 in
    let value : x.0.0 ≡ v.0 = ap (λ (p : (A × B) × List Element). p.0.0) same in
    let o = bind_some (optional_get c ss) (default_with eq d) x.0 x.1 in
    let w = bind_some (or_default eq d o.0.0) (λ z. Some (z, o.0.1)) x.0 o.2 in
    let pair = some_is (w.0, o.0.1) x.0 w.2 in
    let is : w.0 ≡ v.0 = ap (λ (p : A × List Element). p.0) pair ∙ value in
    let there = default_apart eq exact d v.0 o.0.0 (w.1 ∙ ap (λ (z : A). Some z) is) h in
    let one = option_is c ss v.0 o.0.1 (o.1 ∙ ap (λ (z : Option A). let p : Option (Option A × List Element) = Some (z, o.0.1) in p) there) in
    let mid : o.0.1 ≡ x.0.1 = ap (λ (p : A × List Element). p.1) pair in (
      one.0,
      x.0.1,
      one.1 ∙ ap (λ (r : List Element). one.0 ∷ r) mid,
      y.1 ∙ ap (λ (p : (A × B) × List Element). let q : Option (B × List Element) = Some (p.0.1, p.1) in q) same,
    )

-- what begins with a form has its element at the start
pub form_in_front : {A : Type 0} (c : Codec A) (v : A) (b rest : List ℕ) (f : IsDerOf c v b) → front_at (b ++ rest) ≡ Some f.1
form_in_front c v b rest f =
    bind_is (element_at (b ++ rest)) (λ x. Some x.0) (f.1, rest) (Some f.1)
    (ap (λ (x : List ℕ). element_at (x ++ rest)) f.4 ∙ element_again f.1 rest (element_of_encodable f.0 f.1 f.3)) refl
