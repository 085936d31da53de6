-- The bytes of a tree (X.690, 8.1): of a leaf the element with its contents, of a node the one with its children's bytes joined, of a raw its own.
use Rattle.std.specs.Prelude.{Bool, List, false, true, ℕ, [], ◌++◌}
use Rattle.asn1_core.specs.declared.tag.Tag.{Tag}
use Rattle.der_tree.specs.Element.{Element, element_octets}
use Rattle.der_tree.specs.Tree.{PlainTree, PlainTrees, leaf, more, node, none, raw}

abbrev pub made : Tag → Bool → List ℕ → Element
made g b x = record { tag = g; constructed = b; content = x }

abbrev mutual
  pub bytes : PlainTree → List ℕ
  bytes (leaf t b) = element_octets (made t false b)
  bytes (node t k) = element_octets (made t true (row_bytes k))
  bytes (raw b) = b

  pub row_bytes : PlainTrees → List ℕ
  row_bytes none = []
  row_bytes (more t k) = bytes t ++ row_bytes k
