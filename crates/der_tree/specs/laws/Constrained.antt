-- The laws of constrained types.
use Rattle.std.specs.Prelude.{Bool, Err, None, Ok, Option, Some, cond, is_ok, true, ◌&&◌, ◌≡◌}
use Rattle.std.proofs.Common.{ap, subst, ◌∙◌}
use Rattle.asn1_core.specs.Binds.{bind_is, bind_some, chosen}
use Rattle.asn1_core.specs.declared.tag.Tag.{Tag}
use Rattle.der_tree.specs.declared.error.EncodeError.TheVariants.{SizeOutOfRange}
use Rattle.der_tree.specs.Codec.{Codec, HasTag}
use Rattle.der_tree.specs.Constrained.{constrained_has_tree, constrained_read_of, constrained_tree_of}
use Rattle.der_tree.specs.Element.{Element, is_encodable}
use Rattle.der_tree.specs.Tree.{PlainTree}
use Rattle.der_tree.specs.TreeElement.{element_of, raws_are_elements}
use Rattle.der_tree.specs.laws.Results.{is_ok_kept, ok_kept}

module _ {A : Type 0} (c : Codec A) (allowed : A → Bool) where
  pub constrained_takes : (s : Element) (v : A) → is_encodable s ≡ true → constrained_read_of c allowed s ≡ Some v
      → (t : PlainTree) × (constrained_tree_of c allowed v ≡ Ok t) × (element_of t ≡ Some s)
  constrained_takes s v h e =
      let x = bind_some (c.read_of s) (λ v. cond (allowed v) (Some v) None) v e in
      let k = chosen (allowed x.0) x.0 v x.2 in
      let r = c.takes s x.0 h x.1 in
      subst (λ (v : A). (t : PlainTree) × (constrained_tree_of c allowed v ≡ Ok t) × (element_of t ≡ Some s)) k.1
      (r.0, ap (λ (b : Bool). cond b (c.tree_of x.0) (Err SizeOutOfRange)) k.0 ∙ r.1, r.2)

  pub constrained_again : (v : A) (t : PlainTree) (s : Element) → constrained_tree_of c allowed v ≡ Ok t → element_of t ≡ Some s
      → constrained_read_of c allowed s ≡ Some v
  constrained_again v t s e f =
      let k = ok_kept (allowed v) (c.tree_of v) t SizeOutOfRange e in
      bind_is (c.read_of s) (λ v. cond (allowed v) (Some v) None) v (Some v) (c.again v t s k.1 f)
      (ap (λ (b : Bool). let o : Option A = cond b (Some v) None in o) k.0)

  pub constrained_sound : (v : A) (t : PlainTree) → constrained_tree_of c allowed v ≡ Ok t → raws_are_elements t ≡ true
  constrained_sound v t e = c.sound v t (ok_kept (allowed v) (c.tree_of v) t SizeOutOfRange e).1

  pub constrained_tagged : (g : Tag) → ((v : A) (t : PlainTree) → c.tree_of v ≡ Ok t → HasTag g t) → (v : A) (t : PlainTree)
      → constrained_tree_of c allowed v ≡ Ok t → HasTag g t
  constrained_tagged g tagged v t e = tagged v t (ok_kept (allowed v) (c.tree_of v) t SizeOutOfRange e).1

  pub constrained_has : (v : A) → constrained_has_tree c allowed v ≡ is_ok (constrained_tree_of c allowed v)
  constrained_has v = ap (λ (b : Bool). allowed v && b) (c.has_tree_is v) ∙ is_ok_kept (allowed v) (c.tree_of v) SizeOutOfRange
