-- Which values have a tree, and so a DER encoding where it isn't too long.
use Rattle.std.specs.Prelude.{Ok, length, true, ◌<◌, ◌^◌, ◌≡◌}
use Rattle.der_tree.specs.Codec.{Codec}
use Rattle.der_tree.specs.Tree.{PlainTree}
use Rattle.der_tree.specs.TreeBytes.{bytes}

-- it computes to what the value's parts have to be
abbrev pub HasTree : {A : Type 0} → Codec A → A → Type 0
HasTree c v = c.has_tree v ≡ true

-- the value's tree, where it has one, has fewer bytes than 2 ^ 64
abbrev pub HasShortTree : {A : Type 0} → Codec A → A → Type 0
HasShortTree c v = (t : PlainTree) → c.tree_of v ≡ Ok t → length (bytes t) < 2 ^ 64
