-- The laws of one element, whichever.
use Rattle.std.specs.Prelude.{List, Ok, Some, false, is_ok, nat_lt, refl, true, ℕ, [], ◌^◌, ◌≡◌}
use Rattle.std.proofs.Common.{ap, subst, sym, ◌∙◌}
use Rattle.asn1_core.specs.Binds.{some_is, true_and}
use Rattle.asn1_core.specs.Tags.{universal}
use Rattle.asn1_core.specs.declared.tag.Tag.{Tag}
use Rattle.der_tree.specs.declared.error.EncodeError.TheVariants.{NotOneElement}
use Rattle.der_tree.specs.AnyElement.{any_read_of, any_tree_of, is_one}
use Rattle.der_tree.specs.Codec.{Begins}
use Rattle.der_tree.specs.Element.{Element, element_octets, is_encodable}
use Rattle.der_tree.specs.Tags.{every, has}
use Rattle.der_tree.specs.Tree.{PlainTree, raw}
use Rattle.der_tree.specs.TreeElement.{element_of, raws_are_elements}
use Rattle.der_tree.specs.laws.Codec.{element_begins}
use Rattle.der_tree.specs.laws.Element.{one_element_again, one_element_takes}
use Rattle.der_tree.specs.laws.Results.{is_ok_chosen, ok_chosen}

pub any_takes : (s : Element) (v : List ℕ) → is_encodable s ≡ true → any_read_of s ≡ Some v
    → (t : PlainTree) × (any_tree_of v ≡ Ok t) × (element_of t ≡ Some s)
any_takes s v h e =
    let w = one_element_again s h in
    let one : is_one (element_octets s) ≡ true = rw w refl in
    subst (λ (v : List ℕ). (t : PlainTree) × (any_tree_of v ≡ Ok t) × (element_of t ≡ Some s)) (some_is (element_octets s) v e)
    (raw (element_octets s), rw one refl, w)

pub any_again : (v : List ℕ) (t : PlainTree) (s : Element) → any_tree_of v ≡ Ok t → element_of t ≡ Some s → any_read_of s ≡ Some v
any_again v t s e f =
    let k = ok_chosen (is_one v) (raw v) t NotOneElement e in
    ap (λ (x : List ℕ). Some x) (sym (one_element_takes v s (ap element_of k.1 ∙ f)).0)

pub any_sound : (v : List ℕ) (t : PlainTree) → any_tree_of v ≡ Ok t → raws_are_elements t ≡ true
any_sound v t e =
    let k = ok_chosen (is_one v) (raw v) t NotOneElement e in
    subst (λ (t : PlainTree). raws_are_elements t ≡ true) k.1 k.0

pub any_has : (v : List ℕ) → is_one v ≡ is_ok (any_tree_of v)
any_has v = is_ok_chosen (is_one v) (raw v) NotOneElement

-- an element with the tag and no contents
pub any_reaches : (g : Tag) → has every g ≡ true → nat_lt g.number (2 ^ 32) ≡ true → (v : List ℕ) × (t : PlainTree) × (any_tree_of v ≡ Ok t) × Begins g t
any_reaches g e n =
    let s : Element = record { tag = g; constructed = false; content = [] } in
    let x = any_takes s (element_octets s) (true_and (nat_lt g.number (2 ^ 32)) true n refl) refl in
    (element_octets s, x.0, x.1, element_begins x.0 s x.2)

pub any_sample : (v : List ℕ) × (t : PlainTree) × (any_tree_of v ≡ Ok t)
any_sample = let x = any_reaches (universal 5) refl refl in (x.0, x.1, x.2)
