-- What the reading of a SEQUENCE and of its fields says about the elements that are read.
use Rattle.std.specs.Prelude.{◌≡◌, ℕ, zero, suc, Bool, true, ◌&&◌, cond, List, [], ◌∷◌, Option, Some, None, refl}
use Rattle.std.specs.List.{slice_get}
use Rattle.std.proofs.Common.{ap, subst, sym, ◌∙◌}
use Rattle.asn1_core.specs.Binds.{and_true, bind_some, kept, some_is, ◌>>=◌}
use Rattle.asn1_core.specs.declared.tag.Tag.{Tag}
use Rattle.der_tree.specs.Codec.{Codec, FieldsOf, Struct}
use Rattle.der_tree.specs.Element.{Element, all_encodable, children_of, element_octets, is_encodable, split}
use Rattle.der_tree.specs.Fields.{required_get, then_get}
use Rattle.der_tree.specs.Form.{IsDerOf}
use Rattle.der_tree.specs.Grammar.{required}
use Rattle.der_tree.specs.Sequence.{at_end, children, ended, node_read_of}
use Rattle.der_tree.specs.Tags.{same_tag}
use Rattle.der_tree.specs.laws.Element.{split_takes}

-- an element is the form of the value that is read of it
pub form_of_read : {A : Type 0} (c : Codec A) (s : Element) (v : A) → is_encodable s ≡ true → c.read_of s ≡ Some v → IsDerOf c v (element_octets s)
form_of_read c s v h e = let t = c.takes s v h e in (t.0, s, t.1, t.2, refl)

-- ---- the elements within one

children_are : (g : Tag) (s : Element) (ss : List Element) → children g s ≡ Some ss → children_of s ≡ Some ss
unfolding children
children_are g s ss e =
    let k = kept (same_tag s.tag g && s.constructed) (split s.content) ss e in
    rw (and_true (same_tag s.tag g) s.constructed k.0).1 k.1

children_encodable : (s : Element) (b : Bool) (ss : List Element) → cond b (split s.content) None ≡ Some ss → all_encodable ss ≡ true
children_encodable s b ss e = (split_takes s.content ss (kept b (split s.content) ss e).1).1

pub all_children : (s : Element) (ss : List Element) → children_of s ≡ Some ss → all_encodable ss ≡ true
all_children s ss e = children_encodable s s.constructed ss e

nothing_more : (rest : List Element) → at_end rest ≡ Some tt → rest ≡ []
unfolding at_end
nothing_more [] e = refl
nothing_more (s ∷ ss) e = absurd cc

all_read : {A : Type 0} (x : A × List Element) (v : A) → ended x.0 x.1 ≡ Some v → x ≡ (v, [])
all_read {A} x v e =
    let k = bind_some (at_end x.1) (λ u. Some x.0) v e in
    let none : x.1 ≡ [] = nothing_more x.1 k.1 in
    ap (λ (y : A). let p : A × List Element = (y, x.1) in p) (some_is x.0 v k.2) ∙ ap (λ (r : List Element). let p : A × List Element = (v, r) in p) none

-- a SEQUENCE shows its fields, and nothing after them
pub fields_are : {A : Type 0} (g : Tag) (x : Struct A) (s : Element) (v : A) → node_read_of g x.fields s ≡ Some v
    → (ss : List Element) × (children_of s ≡ Some ss) × (x.fields.get ss ≡ Some (v, []))
fields_are {A} g x s v e =
    let k = bind_some (children g s) (λ ss. x.fields.read ss ended) v e in
    let r = bind_some (x.fields.get k.0) (λ y. ended y.0 y.1) v (sym (x.fields.reads k.0 ended) ∙ k.2) in
    (k.0, children_are g s k.0 k.1, r.1 ∙ ap (λ (p : A × List Element). Some p) (all_read r.0 v r.2))

pub encodable_at : (ss : List Element) (place : ℕ) (s : Element) → all_encodable ss ≡ true → slice_get ss place ≡ Some s → is_encodable s ≡ true
encodable_at [] place s h e = absurd cc
encodable_at (x ∷ ss) zero s h e = subst (λ (y : Element). is_encodable y ≡ true) (some_is x s e) (and_true (is_encodable x) (all_encodable ss) h).0
encodable_at (x ∷ ss) (suc place) s h e = encodable_at ss place s (and_true (is_encodable x) (all_encodable ss) h).1 e

-- ---- fields

pub last_is : {A : Type 0} (c : Codec A) (ss : List Element) (v : A) (rest : List Element) → required_get c ss ≡ Some (v, rest)
    → (s : Element) × (ss ≡ s ∷ rest) × (c.read_of s ≡ Some v)
last_is c [] v rest e = absurd cc
last_is {A} c (s ∷ ss) v rest e =
    let x = bind_some (c.read_of s) (λ v. Some (v, ss)) (v, rest) e in
    let same = some_is (x.0, ss) (v, rest) x.2 in
    (s, ap (λ (p : A × List Element). s ∷ p.1) same, x.1 ∙ ap (λ (p : A × List Element). Some p.0) same)

-- fields before others
pub split_get : {A B : Type 0} (f : FieldsOf A) (g : FieldsOf B) (ss : List Element) (v : A × B) (rest : List Element) → then_get f g ss ≡ Some (v, rest)
    → (mid : List Element) × (f.get ss ≡ Some (v.0, mid)) × (g.get mid ≡ Some (v.1, rest))
split_get {A} {B} f g ss v rest e =
    let x = bind_some (f.get ss) (λ x. g.get x.1 >>= λ y. Some ((x.0, y.0), y.1)) (v, rest) e in
    let y = bind_some (g.get x.0.1) (λ y. Some ((x.0.0, y.0), y.1)) (v, rest) x.2 in
    let same = some_is ((x.0.0, y.0.0), y.0.1) (v, rest) y.2 in (
      x.0.1,
      x.1 ∙ ap (λ (p : (A × B) × List Element). let q : Option (A × List Element) = Some (p.0.0, x.0.1) in q) same,
      y.1 ∙ ap (λ (p : (A × B) × List Element). let q : Option (B × List Element) = Some (p.0.1, p.1) in q) same,
    )

pub first_is : {A B : Type 0} (c : Codec A) (g : FieldsOf B) (ss : List Element) (v : A × B) (rest : List Element)
    → then_get (required c) g ss ≡ Some (v, rest)
    → (s : Element) × (mid : List Element) × (ss ≡ s ∷ mid) × (c.read_of s ≡ Some v.0) × (g.get mid ≡ Some (v.1, rest))
first_is c g ss v rest e =
    let x = split_get (required c) g ss v rest e in
    let one = last_is c ss v.0 x.0 x.1 in
    (one.0, x.0, one.1, one.2, x.2)
