-- The laws of a type under a name of its own.
use Rattle.std.specs.Prelude.{IfSome, None, Ok, Option, Result, Some, nat_lt, true, ◌^◌, ◌≡◌}
use Rattle.std.proofs.Common.{ap, subst, ◌∙◌}
use Rattle.asn1_core.specs.Binds.{bind_is, bind_some, some_is}
use Rattle.asn1_core.specs.declared.tag.Tag.{Tag}
use Rattle.der_tree.specs.declared.error.EncodeError.{EncodeError}
use Rattle.der_tree.specs.Assignment.{type_read_of, type_tree_of}
use Rattle.der_tree.specs.Codec.{Begins, Codec, HasTag}
use Rattle.der_tree.specs.Element.{Element, is_encodable}
use Rattle.der_tree.specs.Tags.{has}
use Rattle.der_tree.specs.Tree.{PlainTree}
use Rattle.der_tree.specs.TreeElement.{element_of}

module _ {A B : Type 0} (c : Codec A) (to : B → A) (from : A → B) (p : (b : B) → from (to b) ≡ b) (q : (a : A) → to (from a) ≡ a) where
  pub type_takes : (s : Element) (v : B) → is_encodable s ≡ true → type_read_of c to from p q s ≡ Some v
      → (t : PlainTree) × (type_tree_of c to from p q v ≡ Ok t) × (element_of t ≡ Some s)
  type_takes s v h e =
      let x = bind_some (c.read_of s) (λ v. Some (from v)) v e in
      let r = c.takes s x.0 h x.1 in
      subst (λ (v : B). (t : PlainTree) × (type_tree_of c to from p q v ≡ Ok t) × (element_of t ≡ Some s)) (some_is (from x.0) v x.2)
      (r.0, ap c.tree_of (q x.0) ∙ r.1, r.2)

  pub type_again : (v : B) (t : PlainTree) (s : Element) → type_tree_of c to from p q v ≡ Ok t → element_of t ≡ Some s
      → type_read_of c to from p q s ≡ Some v
  type_again v t s e f = bind_is (c.read_of s) (λ v. Some (from v)) (to v) (Some v) (c.again (to v) t s e f) (ap (λ (b : B). Some b) (p v))

  pub type_reaches : (g : Tag) → has c.starts g ≡ true → nat_lt g.number (2 ^ 32) ≡ true
      → (v : B) × (t : PlainTree) × (type_tree_of c to from p q v ≡ Ok t) × Begins g t
  type_reaches g h n = let x = c.reaches g h n in (from x.0, x.1, ap c.tree_of (q x.0) ∙ x.2, x.3)

  pub type_sample : (v : B) × (t : PlainTree) × (type_tree_of c to from p q v ≡ Ok t)
  type_sample = let x = c.sample in (from x.0, x.1, ap c.tree_of (q x.0) ∙ x.2)

abbrev KeepsTag : {A : Type 0} → (A → Result PlainTree EncodeError) → Option Tag → Type 0
KeepsTag {A} tree_of o = IfSome o (λ g. (v : A) (t : PlainTree) → tree_of v ≡ Ok t → HasTag g t)

type_tagged_at : {A B : Type 0} (tree_of : A → Result PlainTree EncodeError) (to : B → A) (o : Option Tag) → KeepsTag tree_of o
    → KeepsTag (λ (v : B). tree_of (to v)) o
type_tagged_at tree_of to None h = tt
type_tagged_at tree_of to (Some g) h = λ v t e. h (to v) t e

pub type_tagged : {A B : Type 0} (c : Codec A) (to : B → A) → IfSome c.tag (λ g. (v : B) (t : PlainTree) → c.tree_of (to v) ≡ Ok t → HasTag g t)
type_tagged c to = type_tagged_at c.tree_of to c.tag c.tagged
