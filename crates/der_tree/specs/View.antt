-- What a tree in memory is, and how deep it goes.
use Rattle.std.specs.Prelude.{List, map, max, ℕ, ◌+◌}
use Rattle.der_tree.specs.declared.tree.Tree.{Tree}
use Rattle.der_tree.specs.declared.tree.Tree.TheVariants.{Leaf, Node, Raw}
use Rattle.der_tree.specs.Tree.{PlainTree, PlainTrees, leaf, more, node, none, raw, row}

abbrev pub plain : Tree → PlainTree
plain (Leaf t b) = leaf t b
plain (Node t k) = node t (row k)
plain (Raw b) = raw b

abbrev pub plain_list : List Tree → List PlainTree
plain_list ts = map plain ts

abbrev mutual
  pub depth : PlainTree → ℕ
  depth (leaf t b) = 0
  depth (node t k) = row_depth k + 1
  depth (raw b) = 0

  pub row_depth : PlainTrees → ℕ
  row_depth none = 0
  row_depth (more t k) = max (depth t) (row_depth k)

abbrev pub height : List PlainTree → ℕ
height ts = row_depth (row ts) + 1
