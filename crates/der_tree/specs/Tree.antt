-- A tree of elements, without where it lies in memory.
use Rattle.std.specs.Prelude.{Bool, List, false, true, ℕ, [], ◌∷◌}
use Rattle.asn1_core.specs.declared.tag.Tag.{Tag}

mutual
  pub data PlainTree : Type 0 where
    leaf : Tag → List ℕ → PlainTree
    node : Tag → PlainTrees → PlainTree
    raw : List ℕ → PlainTree

  pub data PlainTrees : Type 0 where
    none : PlainTrees
    more : PlainTree → PlainTrees → PlainTrees

abbrev pub row : List PlainTree → PlainTrees
row [] = none
row (t ∷ ts) = more t (row ts)

abbrev pub retagged : Tag → PlainTree → PlainTree
retagged g (leaf t b) = leaf g b
retagged g (node t k) = node g k
retagged g (raw b) = raw b

abbrev pub is_raw : PlainTree → Bool
is_raw (leaf t b) = false
is_raw (node t k) = false
is_raw (raw b) = true
