-- The element that a tree is: where each tag number is below 2 ^ 32, the contents of each leaf and node are fewer than 2 ^ 64 octets,
-- and each raw is one element.
use Rattle.std.specs.Prelude.{Bool, List, None, Option, Some, cond, false, is_some, true, [], ◌&&◌, ◌∷◌}
use Rattle.std.specs.List.{flat_map}
use Rattle.asn1_core.specs.Binds.{◌>>=◌}
use Rattle.der_tree.specs.Element.{Element, element_octets, is_encodable, one_element}
use Rattle.der_tree.specs.Tree.{PlainTree, PlainTrees, leaf, more, node, none, raw, row}

abbrev pub checked : Element → Option Element
checked s = cond (is_encodable s) (Some s) None

abbrev mutual
  pub element_of : PlainTree → Option Element
  element_of (leaf t b) = checked (record { tag = t; constructed = false; content = b })
  element_of (node t k) = row_elements k >>= (λ ss. checked (record { tag = t; constructed = true; content = flat_map element_octets ss }))
  element_of (raw b) = one_element b

  pub row_elements : PlainTrees → Option (List Element)
  row_elements none = Some []
  row_elements (more t k) = element_of t >>= (λ s. row_elements k >>= λ ss. Some (s ∷ ss))

abbrev pub elements_of : List PlainTree → Option (List Element)
elements_of ts = row_elements (row ts)

-- each `raw` in the tree is exactly one element
abbrev mutual
  pub raws_are_elements : PlainTree → Bool
  raws_are_elements (leaf t b) = true
  raws_are_elements (node t k) = row_raws_are_elements k
  raws_are_elements (raw b) = is_some (one_element b)

  pub row_raws_are_elements : PlainTrees → Bool
  row_raws_are_elements none = true
  row_raws_are_elements (more t k) = raws_are_elements t && row_raws_are_elements k

abbrev pub all_raws_are_elements : List PlainTree → Bool
all_raws_are_elements ts = row_raws_are_elements (row ts)
