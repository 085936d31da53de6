-- With which tags the trees of a type begin.
use Rattle.std.specs.Prelude.{IfSome, Ok, Option, Result, Some, false, nat_lt, refl, true, [], ◌^◌, ◌∷◌, ◌≡◌}
use Rattle.std.specs.List.{flat_map}
use Rattle.std.proofs.Common.{ap, subst, sym, ◌∙◌}
use Rattle.std.proofs.Math.Bool.{or-false}
use Rattle.asn1_core.specs.Binds.{bind_some}
use Rattle.asn1_core.specs.declared.tag.Tag.{Tag}
use Rattle.der_tree.specs.declared.error.EncodeError.{EncodeError}
use Rattle.der_tree.specs.Codec.{Begins, Codec, HasTag}
use Rattle.der_tree.specs.Element.{Element, element_octets}
use Rattle.der_tree.specs.HasTree.{HasTree}
use Rattle.der_tree.specs.Tags.{has, same_tag, these}
use Rattle.der_tree.specs.Tree.{PlainTree, leaf, node, raw}
use Rattle.der_tree.specs.TreeElement.{checked, element_of, row_elements}
use Rattle.der_tree.specs.laws.Results.{ok_there}
use Rattle.der_tree.specs.laws.Tags.{same_tag-self, same_tag_is}
use Rattle.der_tree.specs.laws.TreeElement.{checked_some}

-- a tree begins with the tag of its element
pub element_begins : (t : PlainTree) (s : Element) → element_of t ≡ Some s → Begins s.tag t
element_begins (leaf t b) s e = ap (λ (x : Element). x.tag) (checked_some (record { tag = t; constructed = false; content = b }) s e)
element_begins (node t k) s e =
    let x = bind_some (row_elements k) (λ ss. checked (record { tag = t; constructed = true; content = flat_map element_octets ss })) s e in
    ap (λ (x : Element). x.tag) (checked_some (record { tag = t; constructed = true; content = flat_map element_octets x.0 }) s x.2)
element_begins (raw b) s e = (s, e, refl)

pub element_starts : {A : Type 0} (c : Codec A) (v : A) (t : PlainTree) (s : Element) → c.tree_of v ≡ Ok t → element_of t ≡ Some s
    → has c.starts s.tag ≡ true
element_starts c v t s e f = c.begins v t s.tag e (element_begins t s f)

-- the codec's tag under another name
pub each_has_tag : {A : Type 0} (c : Codec A) (o : Option Tag) → c.tag ≡ o → IfSome o (λ g. (v : A) (t : PlainTree) → c.tree_of v ≡ Ok t → HasTag g t)
each_has_tag {A} c o e = subst (λ (x : Option Tag). IfSome x (λ g. (v : A) (t : PlainTree) → c.tree_of v ≡ Ok t → HasTag g t)) e c.tagged

tag_begins : (g : Tag) (t : PlainTree) → HasTag g t → Begins g t
tag_begins g (leaf t b) k = k
tag_begins g (node t r) k = k
tag_begins g (raw b) k = absurd k

no_other_tag : (g h : Tag) (t : PlainTree) → HasTag g t → Begins h t → h ≡ g
no_other_tag g h (leaf t b) k e = sym e ∙ k
no_other_tag g h (node t r) k e = sym e ∙ k
no_other_tag g h (raw b) k e = absurd k

module _ {A : Type 0} (tree_of : A → Result PlainTree EncodeError) (g : Tag) (tagged : (v : A) (t : PlainTree) → tree_of v ≡ Ok t → HasTag g t) where
  pub one_tag_begins : (v : A) (t : PlainTree) (h : Tag) → tree_of v ≡ Ok t → Begins h t → has (these (g ∷ [])) h ≡ true
  one_tag_begins v t h e b = subst (λ (x : Tag). has (these (g ∷ [])) x ≡ true) (sym (no_other_tag g h t (tagged v t e) b)) (rw same_tag-self refl)

  pub one_tag_reaches : (v : A) × (t : PlainTree) × (tree_of v ≡ Ok t) → (h : Tag) → has (these (g ∷ [])) h ≡ true → nat_lt h.number (2 ^ 32) ≡ true
      → (v : A) × (t : PlainTree) × (tree_of v ≡ Ok t) × Begins h t
  one_tag_reaches x h e n =
      let same : h ≡ g = same_tag_is h g (sym (or-false (same_tag h g)) ∙ e) in
      (x.0, x.1, x.2, subst (λ (w : Tag). Begins w x.1) (sym same) (tag_begins g x.1 (tagged x.0 x.1 x.2)))

pub tree_there : {A : Type 0} (c : Codec A) (v : A) → HasTree c v → (t : PlainTree) × (c.tree_of v ≡ Ok t)
tree_there c v h = ok_there (c.tree_of v) (sym (c.has_tree_is v) ∙ h)
