-- The laws of a type that is one leaf.
use Rattle.std.specs.Prelude.{Bool, List, None, Ok, Option, Some, false, is_ok, is_some, not, refl, true, ℕ, ◌&&◌, ◌≡◌}
use Rattle.std.proofs.Common.{ap, subst, sym, ◌∙◌}
use Rattle.std.proofs.lemmas.Bool.{not-true}
use Rattle.asn1_core.specs.Binds.{and_true, bind_is, bind_some, chosen, kept_is}
use Rattle.asn1_core.specs.Contents.{Contents}
use Rattle.asn1_core.specs.declared.tag.Tag.{Tag}
use Rattle.der_tree.specs.declared.error.EncodeError.{EncodeError}
use Rattle.der_tree.specs.Codec.{HasTag}
use Rattle.der_tree.specs.Element.{Element, is_encodable}
use Rattle.der_tree.specs.Primitive.{contents_at, leaf_read_of, leaf_tree_of, or_fault}
use Rattle.der_tree.specs.Tags.{same_tag}
use Rattle.der_tree.specs.Tree.{PlainTree, leaf}
use Rattle.der_tree.specs.TreeElement.{checked, element_of, raws_are_elements}
use Rattle.der_tree.specs.laws.Results.{is_ok_then, ok_is, ok_then_is, ok_then_ok, some_there}
use Rattle.der_tree.specs.laws.Tags.{same_tag-self, same_tag_is}
use Rattle.der_tree.specs.laws.TreeElement.{checked_encodable, checked_some, element_is}

pub or_fault_some : {A : Type 0} (d : EncodeError) (o : Option A) (x : A) → o ≡ Some x → or_fault d o ≡ Ok x
or_fault_some d o x e = rw e refl

or_fault_ok : {A : Type 0} (d : EncodeError) (o : Option A) (x : A) → or_fault d o ≡ Ok x → o ≡ Some x
or_fault_ok d (Some y) x e = ap (λ z. Some z) (ok_is y x e)
or_fault_ok d None x e = absurd cc

or_fault_has : {A : Type 0} (d : EncodeError) (o : Option A) → is_some o ≡ is_ok (or_fault d o)
or_fault_has d (Some x) = refl
or_fault_has d None = refl

module _ {A : Type 0} (g : Tag) (d : EncodeError) (c : Contents A) where
  pub leaf_takes : (s : Element) (v : A) → is_encodable s ≡ true → leaf_read_of g d c s ≡ Some v
      → (t : PlainTree) × (leaf_tree_of g d c v ≡ Ok t) × (element_of t ≡ Some s)
  leaf_takes s v h e =
      let x = bind_some (contents_at g s) c.of v e in
      let k = chosen (same_tag s.tag g && not s.constructed) s.content x.0 x.1 in
      let p = and_true (same_tag s.tag g) (not s.constructed) k.0 in
      let q = element_is s g false s.content (same_tag_is s.tag g p.0) (not-true s.constructed p.1) refl in (
        leaf g s.content,
        ok_then_is (or_fault d (c.to v)) (λ b. Ok (leaf g b)) s.content (Ok (leaf g s.content))
            (or_fault_some d (c.to v) s.content (c.there s.content v (ap c.of k.1 ∙ x.2))) refl,
        ap checked (sym q) ∙ checked_encodable s h,
      )

  leaf_again_at : (v : A) (b : List ℕ) (s : Element) → c.to v ≡ Some b → checked (record { tag = g; constructed = false; content = b }) ≡ Some s
      → leaf_read_of g d c s ≡ Some v
  leaf_again_at v b s e f =
      let z : Element = record { tag = g; constructed = false; content = b } in
      subst (λ (s : Element). leaf_read_of g d c s ≡ Some v) (checked_some z s f)
      (bind_is (contents_at g z) c.of b (Some v) (kept_is (same_tag g g && true) (Some b) b (rw same_tag-self refl) refl) (c.back v b e))

  pub leaf_again : (v : A) (t : PlainTree) (s : Element) → leaf_tree_of g d c v ≡ Ok t → element_of t ≡ Some s → leaf_read_of g d c s ≡ Some v
  leaf_again v t s e f =
      let x = ok_then_ok (or_fault d (c.to v)) (λ b. Ok (leaf g b)) t e in
      leaf_again_at v x.0 s (or_fault_ok d (c.to v) x.0 x.1) (ap element_of (ok_is (leaf g x.0) t x.2) ∙ f)

  pub leaf_tagged : (v : A) (t : PlainTree) → leaf_tree_of g d c v ≡ Ok t → HasTag g t
  leaf_tagged v t e =
      let x = ok_then_ok (or_fault d (c.to v)) (λ b. Ok (leaf g b)) t e in
      subst (λ (t : PlainTree). HasTag g t) (ok_is (leaf g x.0) t x.2) refl

  pub leaf_sound : (v : A) (t : PlainTree) → leaf_tree_of g d c v ≡ Ok t → raws_are_elements t ≡ true
  leaf_sound v t e =
      let x = ok_then_ok (or_fault d (c.to v)) (λ b. Ok (leaf g b)) t e in
      subst (λ (t : PlainTree). raws_are_elements t ≡ true) (ok_is (leaf g x.0) t x.2) refl

  pub leaf_sample : (b : List ℕ) → is_some (c.of b) ≡ true → (v : A) × (t : PlainTree) × (leaf_tree_of g d c v ≡ Ok t)
  leaf_sample b h =
      let v = some_there (c.of b) h in
      (v.0, leaf g b, ok_then_is (or_fault d (c.to v.0)) (λ b. Ok (leaf g b)) b (Ok (leaf g b)) (or_fault_some d (c.to v.0) b (c.there b v.0 v.1)) refl)

  pub leaf_has : (has : A → Bool) → ((v : A) → has v ≡ is_some (c.to v)) → (v : A) → has v ≡ is_ok (leaf_tree_of g d c v)
  leaf_has has is v = is v ∙ or_fault_has d (c.to v) ∙ is_ok_then (or_fault d (c.to v)) (λ b. leaf g b)
