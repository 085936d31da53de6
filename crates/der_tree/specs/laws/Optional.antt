-- The laws of OPTIONAL fields.
use Rattle.std.specs.Prelude.{Bool, List, None, Ok, Option, Some, cond, false, is_ok, refl, true, [], ◌++◌, ◌∷◌, ◌≡◌}
use Rattle.std.proofs.Common.{ap, subst, ◌∙◌}
use Rattle.asn1_core.specs.Binds.{bind_is, bind_some, some_is, ◌>>=◌}
use Rattle.der_tree.specs.Codec.{Clear, Codec, with_fields}
use Rattle.der_tree.specs.Element.{Element, all_encodable}
use Rattle.der_tree.specs.Optional.{absent_with, if_there, next_optional, optional_get, optional_put, present_with}
use Rattle.der_tree.specs.Tags.{Tags, disjoint, has}
use Rattle.der_tree.specs.Tree.{PlainTree}
use Rattle.der_tree.specs.TreeElement.{all_raws_are_elements, elements_of}
use Rattle.der_tree.specs.laws.Codec.{element_starts}
use Rattle.der_tree.specs.laws.Fields.{required_has, required_heads, required_sound, required_takes}
use Rattle.der_tree.specs.laws.Results.{ok_is, ok_then_ok}
use Rattle.der_tree.specs.laws.TreeElement.{one_tree_is}

module _ {A : Type 0} (c : Codec A) where
  absent_get : (ss : List Element) → Clear c.starts ss → optional_get c ss ≡ Some (None, ss)
  absent_get [] k = refl
  absent_get (s ∷ ss) k = rw k refl

  present_get : (s : Element) (rest : List Element) (v : A) → has c.starts s.tag ≡ true → c.read_of s ≡ Some v
      → optional_get c (s ∷ rest) ≡ Some (Some v, rest)
  present_get s rest v h e = rw (h, e) refl

  optional_takes_at : (b : Bool) (s : Element) (ss : List Element) (v : Option A) (rest : List Element) → all_encodable (s ∷ ss) ≡ true
      → cond b (c.read_of s >>= present_with ss) (absent_with (s ∷ ss)) ≡ Some (v, rest)
      → (ts : List PlainTree) × (front : List Element) × (optional_put c v ≡ Ok ts) × (elements_of ts ≡ Some front) × (s ∷ ss ≡ front ++ rest)
  optional_takes_at true s ss v rest h e =
      let x = bind_some (c.read_of s) (present_with ss) (v, rest) e in
      let same = some_is (Some x.0, ss) (v, rest) x.2 in
      let r = required_takes c (s ∷ ss) x.0 ss h (bind_is (c.read_of s) (λ v. Some (v, ss)) x.0 (Some (x.0, ss)) x.1 refl) in
      subst (λ (p : Option A × List Element). (ts : List PlainTree) × (front : List Element) × (optional_put c p.0 ≡ Ok ts) × (elements_of ts ≡ Some front)
      × (s ∷ ss ≡ front ++ p.1)) same r
  optional_takes_at false s ss v rest h e =
      subst (λ (p : Option A × List Element). (ts : List PlainTree) × (front : List Element) × (optional_put c p.0 ≡ Ok ts) × (elements_of ts ≡ Some front)
      × (s ∷ ss ≡ front ++ p.1)) (some_is (None, s ∷ ss) (v, rest) e) ([], [], refl, refl, refl)

  pub optional_takes : (ss : List Element) (v : Option A) (rest : List Element) → all_encodable ss ≡ true → optional_get c ss ≡ Some (v, rest)
      → (ts : List PlainTree) × (front : List Element) × (optional_put c v ≡ Ok ts) × (elements_of ts ≡ Some front) × (ss ≡ front ++ rest)
  optional_takes [] v rest h e =
      subst (λ (p : Option A × List Element). (ts : List PlainTree) × (front : List Element) × (optional_put c p.0 ≡ Ok ts) × (elements_of ts ≡ Some front)
      × ([] ≡ front ++ p.1)) (some_is (None, []) (v, rest) e) ([], [], refl, refl, refl)
  optional_takes (s ∷ ss) v rest h e = optional_takes_at (has c.starts s.tag) s ss v rest h e

  pub optional_again : (v : Option A) (ts : List PlainTree) (front rest : List Element) → optional_put c v ≡ Ok ts → elements_of ts ≡ Some front
      → Clear c.starts rest → optional_get c (front ++ rest) ≡ Some (v, rest)
  optional_again None ts front rest e f k =
      subst (λ (w : List Element). optional_get c (w ++ rest) ≡ Some (None, rest)) (some_is [] front (ap elements_of (ok_is [] ts e) ∙ f))
      (absent_get rest k)
  optional_again (Some v) ts front rest e f k =
      let x = ok_then_ok (c.tree_of v) (λ t. Ok (t ∷ [])) ts e in
      let y = one_tree_is x.0 front (ap elements_of (ok_is (x.0 ∷ []) ts x.2) ∙ f) in
      subst (λ (w : List Element). optional_get c (w ++ rest) ≡ Some (Some v, rest)) y.2
      (present_get y.0 rest v (element_starts c v x.0 y.0 x.1 y.1) (c.again v x.0 y.0 x.1 y.1))

  pub optional_heads : (v : Option A) (ts : List PlainTree) (front rest : List Element) (tags : Tags) → optional_put c v ≡ Ok ts
      → elements_of ts ≡ Some front → disjoint tags c.starts ≡ true → (true ≡ true → Clear tags rest) → Clear tags (front ++ rest)
  optional_heads None ts front rest tags e f d k =
      subst (λ (w : List Element). Clear tags (w ++ rest)) (some_is [] front (ap elements_of (ok_is [] ts e) ∙ f)) (k refl)
  optional_heads (Some v) ts front rest tags e f d k = required_heads c v ts front rest tags e f d (λ q. k refl)

  pub optional_sound : (v : Option A) (ts : List PlainTree) → optional_put c v ≡ Ok ts → all_raws_are_elements ts ≡ true
  optional_sound None ts e = subst (λ (z : List PlainTree). all_raws_are_elements z ≡ true) (ok_is [] ts e) refl
  optional_sound (Some v) ts e = required_sound c v ts e

  pub optional_sample : (v : Option A) × (ts : List PlainTree) × (optional_put c v ≡ Ok ts)
  optional_sample = (None, [], refl)

  pub optional_has : (v : Option A) → if_there c v ≡ is_ok (optional_put c v)
  optional_has None = refl
  optional_has (Some v) = required_has c v

pub optional_reads : {A : Type 0} (c : Codec A) {B : Type 0} (ss : List Element) (k : Option A → List Element → Option B)
    → with_fields k (next_optional c.starts c.read_of ss) ≡ with_fields k (optional_get c ss)
unfolding next_optional
optional_reads c ss k = refl
