-- Reading a CHOICE, one alternative at a time.
use Rattle.std.specs.Prelude.{◌≡◌, true, false, ◌&&◌, [], ◌∷◌, Some, refl}
use Rattle.std.proofs.Common.{inl, inr}
use Rattle.asn1_core.specs.Binds.{bind_some, and_true, kept}
use Rattle.asn1_core.specs.declared.tag.Tag.{Tag}
use Rattle.der_tree.specs.Assignment.{type_read_of}
use Rattle.der_tree.specs.Codec.{Codec}
use Rattle.der_tree.specs.Element.{Element, split}
use Rattle.der_tree.specs.Grammar.{either, explicitly, required}
use Rattle.der_tree.specs.Sequence.{children, ended, opened_at}
use Rattle.der_tree.specs.Tags.{disjoint, has, same_tag, these}

module _ {A B : Type 0} (c : Codec A) (d : Codec B) (apart : disjoint c.starts d.starts ≡ true) (s : Element) where
  pub first_of : (v : A) → has c.starts s.tag ≡ true → c.read_of s ≡ Some v → (either c d apart).read_of s ≡ Some (inl v)
  first_of v h e = rw (h, e) refl

  pub rest_of : (v : B) → has c.starts s.tag ≡ false → d.read_of s ≡ Some v → (either c d apart).read_of s ≡ Some (inr v)
  rest_of v h e = rw (h, e) refl

pub chosen_of : {A B : Type 0} (c : Codec A) (to : B → A) (from : A → B) (p : (b : B) → from (to b) ≡ b) (q : (a : A) → to (from a) ≡ a) (s : Element) (v : A) → c.read_of s ≡ Some v → type_read_of c to from p q s ≡ Some (from v)
chosen_of c to from p q s v e = rw e refl

-- what is read within an explicit tag has it
pub within_starts : {A : Type 0} (g : Tag) (c : Codec A) (s : Element) (v : A) → (explicitly g c).read_of s ≡ Some v → has (these (g ∷ [])) s.tag ≡ true
unfolding children
within_starts g c s v e =
    let x = bind_some (opened_at g s) (λ ss. (required c).read ss ended) v e in
    let k = kept (same_tag s.tag g && s.constructed) (split s.content) x.0 x.1 in
    let p = and_true (same_tag s.tag g) s.constructed k.0 in
    rw p.0 refl
