-- The laws of texts whose number of characters is bounded.
use Rattle.std.specs.Prelude.{Bool, Err, List, Ok, Option, Some, cond, false, is_ok, refl, true, ℕ, ◌≡◌}
use Rattle.std.proofs.Common.{ap, ◌∙◌}
use Rattle.asn1_core.specs.StringTypes.{StringType}
use Rattle.asn1_core.specs.Tags.{universal}
use Rattle.asn1_core.specs.Texts.{text_contents, text_there}
use Rattle.der_tree.specs.declared.error.EncodeError.TheVariants.{SizeOutOfRange}
use Rattle.der_tree.specs.CharacterStrings.{is_sized, is_sized_text, sized_read_of, sized_tree_of, text}
use Rattle.der_tree.specs.Codec.{HasTag}
use Rattle.der_tree.specs.Element.{Element, is_encodable}
use Rattle.der_tree.specs.Primitive.{or_fault}
use Rattle.der_tree.specs.SequenceOf.{is_within}
use Rattle.der_tree.specs.Tree.{PlainTree, is_raw, leaf}
use Rattle.der_tree.specs.TreeElement.{element_of, raws_are_elements}
use Rattle.der_tree.specs.laws.Constrained.{constrained_again, constrained_has, constrained_sound, constrained_tagged, constrained_takes}
use Rattle.der_tree.specs.laws.Primitive.{or_fault_some}
use Rattle.der_tree.specs.laws.Results.{ok_then_is}
use Rattle.der_tree.specs.laws.Tagging.{not_raw_at}

module _ (s : StringType) (low : ℕ) (high : Option ℕ) where
  pub sized_takes : (e : Element) (v : List ℕ) → is_encodable e ≡ true → sized_read_of s low high e ≡ Some v
      → (t : PlainTree) × (sized_tree_of s low high v ≡ Ok t) × (element_of t ≡ Some e)
  unfolding sized_tree_of sized_read_of
  sized_takes = constrained_takes (text s) (is_sized s low high)

  pub sized_again : (v : List ℕ) (t : PlainTree) (e : Element) → sized_tree_of s low high v ≡ Ok t → element_of t ≡ Some e
      → sized_read_of s low high e ≡ Some v
  unfolding sized_tree_of sized_read_of
  sized_again = constrained_again (text s) (is_sized s low high)

  pub sized_sound : (v : List ℕ) (t : PlainTree) → sized_tree_of s low high v ≡ Ok t → raws_are_elements t ≡ true
  unfolding sized_tree_of
  sized_sound = constrained_sound (text s) (is_sized s low high)

  pub sized_tagged : (v : List ℕ) (t : PlainTree) → sized_tree_of s low high v ≡ Ok t → HasTag (universal s.number) t
  unfolding sized_tree_of
  sized_tagged = constrained_tagged (text s) (is_sized s low high) (universal s.number) (text s).tagged

  pub sized_sample : is_within low high low ≡ true → (v : List ℕ) × (t : PlainTree) × (sized_tree_of s low high v ≡ Ok t)
  unfolding sized_tree_of
  sized_sample room =
      let x = s.long low in
      let there = or_fault_some SizeOutOfRange ((text_contents s).to x.0) x.0 (text_there s x.0 x.1 x.2) in
      let tree = ok_then_is (or_fault SizeOutOfRange ((text_contents s).to x.0)) (λ b. Ok (leaf (universal s.number) b)) x.0
      (Ok (leaf (universal s.number) x.0)) there refl in (
        x.0,
        leaf (universal s.number) x.0,
        ap (λ (b : Bool). cond b ((text s).tree_of x.0) (Err SizeOutOfRange)) (ap (is_within low high) x.3 ∙ room)
            ∙ tree,
      )

  pub sized_has : (v : List ℕ) → is_sized_text s low high v ≡ is_ok (sized_tree_of s low high v)
  unfolding sized_tree_of
  sized_has = constrained_has (text s) (is_sized s low high)

pub sized_not_raw : (s : StringType) (low : ℕ) (high : Option ℕ) (v : List ℕ) (t : PlainTree) → sized_tree_of s low high v ≡ Ok t → is_raw t ≡ false
sized_not_raw s low high v t e = not_raw_at (universal s.number) t (sized_tagged s low high v t e)
