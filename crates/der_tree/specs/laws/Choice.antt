-- The laws of CHOICE.
use Rattle.std.specs.Prelude.{Bool, Ok, Option, Some, cond, false, is_ok, nat_lt, refl, true, ◌^◌, ◌||◌, ◌≡◌, ◌⊎◌}
use Rattle.std.proofs.Common.{ap, inl, inr, subst, sym, ◌∙◌}
use Rattle.std.proofs.Math.Bool.{or-true}
use Rattle.asn1_core.specs.Binds.{bind_some, some_is, ◌>>=◌}
use Rattle.asn1_core.specs.declared.tag.Tag.{Tag}
use Rattle.der_tree.specs.Choice.{as_left, as_right, either_has_tree, either_read_of, either_tree_of}
use Rattle.der_tree.specs.Codec.{Begins, Codec}
use Rattle.der_tree.specs.Element.{Element, is_encodable}
use Rattle.der_tree.specs.Tags.{disjoint, has, join}
use Rattle.der_tree.specs.Tree.{PlainTree}
use Rattle.der_tree.specs.TreeElement.{element_of, raws_are_elements}
use Rattle.der_tree.specs.laws.Codec.{element_starts}
use Rattle.der_tree.specs.laws.Tags.{disjoint_is, has-join}

first_chosen : {A B : Type 0} (b : Bool) (o : Option A) (r : Option B) (v : A) → b ≡ true → o ≡ Some v
    → cond b (o >>= as_left) (r >>= as_right) ≡ Some (inl v)
first_chosen b o r v e f = rw (e, f) refl

second_chosen : {A B : Type 0} (b : Bool) (o : Option A) (r : Option B) (v : B) → b ≡ false → r ≡ Some v
    → cond b (o >>= as_left) (r >>= as_right) ≡ Some (inr v)
second_chosen b o r v e f = rw (e, f) refl

module _ {A B : Type 0} (c : Codec A) (d : Codec B) where
  either_takes_at : (s : Element) (v : A ⊎ B) (b : Bool) → is_encodable s ≡ true → cond b (c.read_of s >>= as_left) (d.read_of s >>= as_right) ≡ Some v
      → (t : PlainTree) × (either_tree_of c d v ≡ Ok t) × (element_of t ≡ Some s)
  either_takes_at s v true h e =
      let x = bind_some (c.read_of s) as_left v e in
      subst (λ (v : A ⊎ B). (t : PlainTree) × (either_tree_of c d v ≡ Ok t) × (element_of t ≡ Some s)) (some_is (inl x.0) v x.2) (c.takes s x.0 h x.1)
  either_takes_at s v false h e =
      let x = bind_some (d.read_of s) as_right v e in
      subst (λ (v : A ⊎ B). (t : PlainTree) × (either_tree_of c d v ≡ Ok t) × (element_of t ≡ Some s)) (some_is (inr x.0) v x.2) (d.takes s x.0 h x.1)

  pub either_takes : (s : Element) (v : A ⊎ B) → is_encodable s ≡ true → either_read_of c d s ≡ Some v
      → (t : PlainTree) × (either_tree_of c d v ≡ Ok t) × (element_of t ≡ Some s)
  either_takes s v h e = either_takes_at s v (has c.starts s.tag) h e

  pub either_begins : (v : A ⊎ B) (t : PlainTree) (g : Tag) → either_tree_of c d v ≡ Ok t → Begins g t → has (join c.starts d.starts) g ≡ true
  either_begins (inl v) t g e b = has-join c.starts d.starts g ∙ ap (λ (x : Bool). x || has d.starts g) (c.begins v t g e b)
  either_begins (inr v) t g e b = has-join c.starts d.starts g ∙ ap (λ (x : Bool). has c.starts g || x) (d.begins v t g e b) ∙ or-true (has c.starts g)

  either_reaches_at : (g : Tag) (b : Bool) → has c.starts g ≡ b → (b || has d.starts g) ≡ true → nat_lt g.number (2 ^ 32) ≡ true
      → (v : A ⊎ B) × (t : PlainTree) × (either_tree_of c d v ≡ Ok t) × Begins g t
  either_reaches_at g true e h n = let x = c.reaches g e n in (inl x.0, x.1, x.2, x.3)
  either_reaches_at g false e h n = let x = d.reaches g h n in (inr x.0, x.1, x.2, x.3)

  pub either_reaches : (g : Tag) → has (join c.starts d.starts) g ≡ true → nat_lt g.number (2 ^ 32) ≡ true
      → (v : A ⊎ B) × (t : PlainTree) × (either_tree_of c d v ≡ Ok t) × Begins g t
  either_reaches g h n = either_reaches_at g (has c.starts g) refl (sym (has-join c.starts d.starts g) ∙ h) n

  pub either_sample : (v : A ⊎ B) × (t : PlainTree) × (either_tree_of c d v ≡ Ok t)
  either_sample = let x = c.sample in (inl x.0, x.1, x.2)

  pub either_sound : (v : A ⊎ B) (t : PlainTree) → either_tree_of c d v ≡ Ok t → raws_are_elements t ≡ true
  either_sound (inl v) t e = c.sound v t e
  either_sound (inr v) t e = d.sound v t e

  pub either_has : (v : A ⊎ B) → either_has_tree c d v ≡ is_ok (either_tree_of c d v)
  either_has (inl v) = c.has_tree_is v
  either_has (inr v) = d.has_tree_is v

  pub either_again : disjoint c.starts d.starts ≡ true → (v : A ⊎ B) (t : PlainTree) (s : Element) → either_tree_of c d v ≡ Ok t → element_of t ≡ Some s
      → either_read_of c d s ≡ Some v
  either_again apart (inl v) t s e f = first_chosen (has c.starts s.tag) (c.read_of s) (d.read_of s) v (element_starts c v t s e f) (c.again v t s e f)
  either_again apart (inr v) t s e f =
      second_chosen (has c.starts s.tag) (c.read_of s) (d.read_of s) v (disjoint_is c.starts d.starts s.tag apart (element_starts d v t s e f))
      (d.again v t s e f)
