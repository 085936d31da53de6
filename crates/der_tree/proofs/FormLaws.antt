-- What holds of the forms of values.
use Rattle.std.specs.Prelude.{◌≡◌, true, ℕ, List, [], ◌++◌, Option, Some, None, is_some, Ok, refl}
use Rattle.std.proofs.Common.{sym, ap, ◌∙◌}
use Rattle.std.proofs.lemmas.List.{append-nil}
use Rattle.der_tree.specs.Codec.{Codec}
use Rattle.der_tree.specs.Element.{Element, element_at, element_octets, is_encodable, one_element}
use Rattle.der_tree.specs.Form.{IsDerOf, value_of}
use Rattle.der_tree.specs.Tree.{PlainTree}
use Rattle.der_tree.specs.TreeBytes.{bytes}
use Rattle.der_tree.specs.TreeElement.{element_of, raws_are_elements}
use Rattle.der_tree.specs.laws.Element.{element_again, element_takes, one_element_again, one_element_takes}
use Rattle.der_tree.specs.laws.Results.{ok_is, some_there}
use Rattle.der_tree.specs.laws.TreeElement.{element_of_encodable}
use Rattle.asn1_core.specs.Binds.{◌>>=◌, bind_is, bind_some, some_is}
use Rattle.der_tree.proofs.Writing.{bytes_are}

module _ {A : Type 0} (c : Codec A) where
  pub found_is : (input : List ℕ) (s : Element) (rest : List ℕ) (v : A) → element_at input ≡ Some (s, rest) → c.read_of s ≡ Some v → (b : List ℕ) × IsDerOf c v b × (input ≡ b ++ rest)
  found_is input s rest v e f =
      let p = element_takes input s rest e in
      let t = c.takes s v p.1 f in
      (element_octets s, (t.0, s, t.1, t.2, refl), p.0)

  -- the element at the front of a form
  pub front_is : (input : List ℕ) (v : A) (b rest : List ℕ) → (h : IsDerOf c v b) → input ≡ b ++ rest → (element_at input ≡ Some (h.1, rest)) × (c.read_of h.1 ≡ Some v)
  front_is input v b rest h e =
      (ap element_at (e ∙ ap (λ (x : List ℕ). x ++ rest) h.4) ∙ element_again h.1 rest (element_of_encodable h.0 h.1 h.3), c.again v h.0 h.1 h.2 h.3)

  no_some : {B : Type 0} (x : B) → Some x ≡ None → ⊥
  no_some x e = cc

  pub none_is_none : (input : List ℕ) → element_at input ≡ None → (v : A) (b rest : List ℕ) → IsDerOf c v b → input ≡ b ++ rest → ⊥
  none_is_none input e v b rest h f = no_some (h.1, rest) (sym (front_is input v b rest h f).0 ∙ e)

  pub unread_is_none : (input : List ℕ) (s : Element) (after : List ℕ) → element_at input ≡ Some (s, after) → c.read_of s ≡ None → (v : A) (b rest : List ℕ) → IsDerOf c v b → input ≡ b ++ rest → ⊥
  unread_is_none input s after e f v b rest h g =
      let p = front_is input v b rest h g in
      let same : s ≡ h.1 = ap (λ (x : Element × List ℕ). x.0) (some_is (s, after) (h.1, rest) (sym e ∙ p.0)) in
      no_some v (sym p.1 ∙ ap c.read_of (sym same) ∙ f)

  -- ---- the whole input
  pub value_there : (b : List ℕ) (v : A) → value_of c b ≡ Some v → IsDerOf c v b
  value_there b v e =
      let x = bind_some (one_element b) c.read_of v e in
      let one = one_element_takes b x.0 x.1 in
      let t = c.takes x.0 v one.1 x.2 in
      (t.0, x.0, t.1, t.2, one.0)

  pub value_again : (b : List ℕ) (v : A) → IsDerOf c v b → value_of c b ≡ Some v
  value_again b v h =
      bind_is (one_element b) c.read_of h.1 (Some v) (ap one_element h.4 ∙ one_element_again h.1 (element_of_encodable h.0 h.1 h.3)) (c.again v h.0 h.1 h.2 h.3)

  pub no_value : (b : List ℕ) → value_of c b ≡ None → (v : A) → IsDerOf c v b → ⊥
  no_value b e v h = no_some v (sym (value_again b v h) ∙ e)

  pub none_without : (b : List ℕ) → one_element b ≡ None → (v : A) → IsDerOf c v b → ⊥
  none_without b e = no_value b (ap (λ (o : Option Element). o >>= c.read_of) e)

  pub none_unread : (b : List ℕ) (s : Element) → one_element b ≡ Some s → c.read_of s ≡ None → (v : A) → IsDerOf c v b → ⊥
  none_unread b s e f = no_value b (bind_is (one_element b) c.read_of s None e f)

  pub same_value : (v w : A) (b : List ℕ) → IsDerOf c v b → IsDerOf c w b → v ≡ w
  same_value v w b h k =
      let p = front_is b v b [] h (sym (append-nil b)) in
      let q = front_is b w b [] k (sym (append-nil b)) in
      let same : h.1 ≡ k.1 = ap (λ (x : Element × List ℕ). x.0) (some_is (h.1, []) (k.1, []) (sym p.0 ∙ q.0)) in
      some_is v w (sym p.1 ∙ ap c.read_of same ∙ q.1)

  pub same_form : (v : A) (a b : List ℕ) → IsDerOf c v a → IsDerOf c v b → a ≡ b
  same_form v a b h k =
      let t : h.0 ≡ k.0 = ok_is h.0 k.0 (sym h.2 ∙ k.2) in
      let s : h.1 ≡ k.1 = some_is h.1 k.1 (sym h.3 ∙ ap element_of t ∙ k.3) in
      h.4 ∙ ap element_octets s ∙ sym k.4

  -- each form of the value that was read is the front that it was read from
  pub again_is : (input : List ℕ) (s : Element) (rest : List ℕ) (v : A) → element_at input ≡ Some (s, rest) → c.read_of s ≡ Some v → (b : List ℕ) → IsDerOf c v b → input ≡ b ++ rest
  again_is input s rest v e f b h =
      let x = found_is input s rest v e f in
      x.2 ∙ ap (λ (y : List ℕ). y ++ rest) (same_form v x.0 b x.1 h)

  -- a tree's bytes are a form of the value that it is of
  pub written_is : (v : A) (t : PlainTree) (b : List ℕ) → c.tree_of v ≡ Ok t → b ≡ bytes t → is_some (element_of t) ≡ raws_are_elements t → IsDerOf c v b
  written_is v t b e w h = let x = some_there (element_of t) (h ∙ c.sound v t e) in (t, x.0, e, x.1, w ∙ bytes_are t x.0 x.1)

  -- a form is the octets of one element
  pub form_is_element : (v : A) (b : List ℕ) → IsDerOf c v b → (s : Element) × (is_encodable s ≡ true) × (b ≡ element_octets s)
  form_is_element v b h = (h.1, element_of_encodable h.0 h.1 h.3, h.4)

-- of two forms, of whatever types, neither begins the other
pub no_front : {A B : Type 0} (c : Codec A) (d : Codec B) (v : A) (w : B) (a b rest : List ℕ) → IsDerOf c v a → IsDerOf d w b → b ≡ a ++ rest → rest ≡ []
no_front c d v w a b rest h k e =
    let p = front_is c b v a rest h e in
    let q = front_is d b w b [] k (sym (append-nil b)) in
    ap (λ (x : Element × List ℕ). x.1) (some_is (h.1, rest) (k.1, []) (sym p.0 ∙ q.0))

pub ruleset decoding = (found_is, none_is_none, unread_is_none, again_is)

pub ruleset one = (same_value, same_form)
