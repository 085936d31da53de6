-- Each tree within trees is less high than they are.
use Rattle.std.specs.Prelude.{List, max, [], ◌+◌, ◌∷◌, ◌≤◌}
use Rattle.std.proofs.Common.{arith}
use denote.Param.Weighed.{most}
use Rattle.der_tree.specs.declared.tree.Tree.{Tree}
use Rattle.der_tree.specs.declared.tree.Tree.TheVariants.{Leaf, Node, Raw}
use Rattle.der_tree.specs.declared.tree.Trees.TheDeep.{deep-Tree}
use Rattle.der_tree.specs.View.{depth, height, plain, plain_list}

deep_le : (t : Tree) → deep-Tree t ≤ depth (plain t) + 1
deep_le (Leaf t b) = omega arith
deep_le (Node t k) = omega arith
deep_le (Raw b) = omega arith

pub most_le : (ts : List Tree) → max (most deep-Tree ts) 0 ≤ height (plain_list ts)
most_le [] = omega arith
most_le (t ∷ ts) = omega (arith, deep_le t, most_le ts)
