-- The elements of a tree, and the size of each.
use Rattle.std.specs.Prelude.{List, length, ℕ, [], ◌++◌, ◌+◌, ◌∷◌}
use Rattle.der_tree.specs.Tree.{PlainTree, PlainTrees, leaf, more, node, none, raw}
use Rattle.der_tree.specs.TreeBytes.{row_bytes}

-- how many elements it is: its leaves, its nodes and its raws
abbrev mutual
  pub element_count : PlainTree → ℕ
  element_count (leaf t b) = 1
  element_count (node t k) = row_element_count k + 1
  element_count (raw b) = 1

  pub row_element_count : PlainTrees → ℕ
  row_element_count none = 0
  row_element_count (more t k) = element_count t + row_element_count k

-- the sizes: of a leaf the number of its contents octets, of a raw that of its octets, of a node the sizes of its children, from the
-- last one to the first, and then the number of its contents octets
abbrev mutual
  pub sizes_of : PlainTree → List ℕ
  sizes_of (leaf t b) = length b ∷ []
  sizes_of (node t k) = row_sizes k ++ length (row_bytes k) ∷ []
  sizes_of (raw b) = length b ∷ []

  pub row_sizes : PlainTrees → List ℕ
  row_sizes none = []
  row_sizes (more t k) = row_sizes k ++ sizes_of t
