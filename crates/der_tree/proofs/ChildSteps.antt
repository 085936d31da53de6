-- A child is less deep than the tree.
use Rattle.std.specs.Prelude.{◌≡◌, ℕ, zero, suc, ◌+◌, ◌<◌, ◌≤◌, List, [], ◌∷◌, length}
use Rattle.std.proofs.Common.{ap, arith, get_or}
use Rattle.asn1_core.specs.declared.tag.Tag.{Tag}
use Rattle.der_tree.specs.declared.tree.Tree.{Tree}
use Rattle.der_tree.specs.declared.tree.Tree.TheVariants.{Node}
use Rattle.der_tree.specs.Tree.{PlainTree, row}
use Rattle.der_tree.specs.View.{depth, plain, plain_list, row_depth}

child_depth : (ts : List Tree) (i : ℕ) (d : Tree) → i < length ts → depth (plain (get_or ts i d)) ≤ row_depth (row (plain_list ts))
child_depth [] i d l = absurd (omega arith)
child_depth (t ∷ ts) zero d l = omega arith
child_depth (t ∷ ts) (suc i) d l = let h = child_depth ts i d (omega arith) in omega (arith, h)

pub child_below : (tree : Tree) (tag : Tag) (children : List PlainTree) (ts : List Tree) (i : ℕ) (child : Tree) → tree ≡ Node tag children → plain_list ts ≡ children → i < length ts → get_or ts i child ≡ child → depth (plain child) < depth (plain tree)
child_below tree tag children ts i child e f l g =
    let h = child_depth ts i child l in
    let a : depth (plain (get_or ts i child)) ≡ depth (plain child) = ap (λ (x : Tree). depth (plain x)) g in
    let b : row_depth (row (plain_list ts)) ≡ row_depth (row children) = ap (λ (x : List PlainTree). row_depth (row x)) f in
    let d : depth (plain tree) ≡ row_depth (row children) + 1 = ap (λ (x : Tree). depth (plain x)) e in
    omega (arith, h, a, b, d)
