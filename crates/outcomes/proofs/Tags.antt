-- The tags of a tree that is an element fit.
use Rattle.std.specs.Prelude.{◌≡◌, ◌^◌, true, false, List, ◌∷◌, length, Some, nat_lt, refl}
use Rattle.std.specs.List.{flat_map}
use Rattle.asn1_core.specs.Binds.{and_true, bind_some, chosen, true_and, ◌>>=◌}
use Rattle.der_tree.specs.Element.{Element, element_octets, is_encodable}
use Rattle.der_tree.specs.Tree.{PlainTree, PlainTrees, leaf, more, node, none, raw}
use Rattle.der_tree.specs.TreeBytes.{made}
use Rattle.der_tree.specs.TreeElement.{checked, element_of, row_elements}
use Rattle.der_tree.proofs.ShortTrees.{row_tags_fit, tags_fit}

tag_of : (s t : Element) → checked s ≡ Some t → nat_lt s.tag.number (2 ^ 32) ≡ true
tag_of s t e = (and_true (nat_lt s.tag.number (2 ^ 32)) (nat_lt (length s.content) (2 ^ 64)) (chosen (is_encodable s) s t e).0).0

mutual
  pub tags_of : (t : PlainTree) (s : Element) → element_of t ≡ Some s → tags_fit t ≡ true
  tags_of (leaf t b) s e = tag_of (record { tag = t; constructed = false; content = b }) s e
  tags_of (node t k) s e =
      let x = bind_some (row_elements k) (λ ss. checked (made t true (flat_map element_octets ss))) s e in
      true_and (nat_lt t.number (2 ^ 32)) (row_tags_fit k) (tag_of (made t true (flat_map element_octets x.0)) s x.2) (row_tags_of k x.0 x.1)
  tags_of (raw b) s e = refl

  row_tags_of : (k : PlainTrees) (ss : List Element) → row_elements k ≡ Some ss → row_tags_fit k ≡ true
  row_tags_of none ss e = refl
  row_tags_of (more t k) ss e =
      let x = bind_some (element_of t) (λ s. row_elements k >>= λ rest. Some (s ∷ rest)) ss e in
      let y = bind_some (row_elements k) (λ rest. Some (x.0 ∷ rest)) ss x.2 in
      true_and (tags_fit t) (row_tags_fit k) (tags_of t x.0 x.1) (row_tags_of k y.0 y.1)
