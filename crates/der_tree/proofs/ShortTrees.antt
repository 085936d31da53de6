-- A tree of fewer than 2^64 bytes is an element.
use Rattle.std.specs.Prelude.{Bool, List, Ok, Some, false, length, nat_lt, refl, true, ℕ, [], ◌&&◌, ◌+◌, ◌++◌, ◌<◌, ◌^◌, ◌∷◌, ◌≡◌, ◌≤◌}
use Rattle.std.specs.List.{flat_map}
use Rattle.std.proofs.Common.{arith, sym}
use Rattle.std.proofs.lemmas.Bool.{lt-ltb}
use Rattle.std.proofs.lemmas.List.{length-append}
use Rattle.asn1_core.specs.Binds.{and_true, bind_is, true_and, ◌>>=◌}
use Rattle.der_tree.specs.Codec.{Codec}
use Rattle.der_tree.specs.Element.{Element, element_octets, identifier_octets, length_octets, one_element}
use Rattle.der_tree.specs.Form.{IsDerOf}
use Rattle.der_tree.specs.HasTree.{HasShortTree}
use Rattle.der_tree.specs.Tree.{PlainTree, PlainTrees, leaf, more, node, none, raw}
use Rattle.der_tree.specs.TreeBytes.{bytes, made, row_bytes}
use Rattle.der_tree.specs.TreeElement.{checked, element_of, raws_are_elements, row_elements, row_raws_are_elements}
use Rattle.der_tree.specs.laws.Results.{some_there}
use Rattle.der_tree.specs.laws.TreeElement.{checked_encodable}
use Rattle.der_tree.proofs.Writing.{row_bytes_are}

-- each tag number is below 2 ^ 32
abbrev mutual
  pub tags_fit : PlainTree → Bool
  tags_fit (leaf t b) = nat_lt t.number (2 ^ 32)
  tags_fit (node t k) = nat_lt t.number (2 ^ 32) && row_tags_fit k
  tags_fit (raw b) = true

  pub row_tags_fit : PlainTrees → Bool
  row_tags_fit none = true
  row_tags_fit (more t k) = tags_fit t && row_tags_fit k

pub contents_within : (s : Element) → length s.content ≤ length (element_octets s)
unfolding element_octets
contents_within s =
    omega (
      arith,
      length-append (identifier_octets s.tag s.constructed) (length_octets (length s.content) ++ s.content),
      length-append (length_octets (length s.content)) s.content,
    )

is_checked : (s : Element) → nat_lt s.tag.number (2 ^ 32) ≡ true → length s.content < 2 ^ 64 → checked s ≡ Some s
is_checked s g l = checked_encodable s (true_and (nat_lt s.tag.number (2 ^ 32)) (nat_lt (length s.content) (2 ^ 64)) g (lt-ltb (length s.content) (2 ^ 64) l))

mutual
  pub element_there : (t : PlainTree) → raws_are_elements t ≡ true → tags_fit t ≡ true → length (bytes t) < 2 ^ 64 → (s : Element) × (element_of t ≡ Some s)
  element_there (leaf t b) r g l = let s = made t false b in (s, is_checked s g (omega (arith, contents_within s)))
  element_there (node t k) r g l =
      let s = made t true (row_bytes k) in
      let h = and_true (nat_lt t.number (2 ^ 32)) (row_tags_fit k) g in
      let inside : length (row_bytes k) < 2 ^ 64 = omega (arith, contents_within s) in
      let parts = elements_there k r h.1 inside in (
        s,
        bind_is (row_elements k) (λ ss. checked (made t true (flat_map element_octets ss))) parts.0 (Some s) parts.1
            (rw (sym (row_bytes_are k parts.0 parts.1)) (is_checked s h.0 inside)),
      )
  element_there (raw b) r g l = some_there (one_element b) r

  elements_there : (k : PlainTrees) → row_raws_are_elements k ≡ true → row_tags_fit k ≡ true → length (row_bytes k) < 2 ^ 64 → (ss : List Element) × (row_elements k ≡ Some ss)
  elements_there none r g l = ([], refl)
  elements_there (more t k) r g l =
      let rs = and_true (raws_are_elements t) (row_raws_are_elements k) r in
      let gs = and_true (tags_fit t) (row_tags_fit k) g in
      let both : length (bytes t ++ row_bytes k) ≡ length (bytes t) + length (row_bytes k) = length-append (bytes t) (row_bytes k) in
      let first = element_there t rs.0 gs.0 (omega (arith, both)) in
      let rest = elements_there k rs.1 gs.1 (omega (arith, both)) in (
        first.0 ∷ rest.0,
        bind_is (element_of t) (λ s. row_elements k >>= λ ss. Some (s ∷ ss)) first.0 (Some (first.0 ∷ rest.0)) first.1
            (bind_is (row_elements k) (λ ss. Some (first.0 ∷ ss)) rest.0 (Some (first.0 ∷ rest.0)) rest.1 refl),
      )

-- a value with such a tree has a form
pub form_there : {A : Type 0} (c : Codec A) (v : A) (t : PlainTree) → c.tree_of v ≡ Ok t → tags_fit t ≡ true → HasShortTree c v → (b : List ℕ) × IsDerOf c v b
form_there c v t e g h =
    let x = element_there t (c.sound v t e) g (h t e) in
    (element_octets x.0, (t, x.0, e, x.1, refl))
