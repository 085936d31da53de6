-- The trees of optional fields.
use Rattle.std.specs.Prelude.{◌≡◌, ◌^◌, true, nat_lt, List, [], ◌∷◌, Option, Some, None, Ok, refl}
use Rattle.std.specs.Option.{IfSome}
use Rattle.asn1_core.specs.declared.tag.Tag.{Tag}
use Rattle.der_tree.specs.Codec.{Codec}
use Rattle.der_tree.specs.Grammar.{explicitly, optional}
use Rattle.der_tree.specs.Tree.{PlainTree, node, row}
use Rattle.der_tree.proofs.ShortTrees.{row_tags_fit}
use Rattle.rcgen_certificate.proofs.Trees.{TreeOf}

-- the trees of a field that may be absent
pub record TreesOfField {A : Type 0} (c : Codec A) (o : Option A) : Type 0 where
  pub trees : List PlainTree
  pub are_trees : (optional c).put o ≡ Ok trees
  pub tags : row_tags_fit (row trees) ≡ true

pub field_trees : {A : Type 0} (c : Codec A) (o : Option A) → IfSome o (TreeOf c) → TreesOfField c o
field_trees c None h = record { trees = []; are_trees = refl; tags = refl }
field_trees c (Some v) h = record { trees = h.tree ∷ []; are_trees = rw h.is_tree refl; tags = rw h.tags refl }

-- under a tag of its own
pub explicit_trees : {A : Type 0} (g : Tag) (c : Codec A) (o : Option A) → nat_lt g.number (2 ^ 32) ≡ true → IfSome o (TreeOf c)
    → TreesOfField (explicitly g c) o
explicit_trees g c None l h = record { trees = []; are_trees = refl; tags = refl }
explicit_trees g c (Some v) l h =
    record { trees = node g (row (h.tree ∷ [])) ∷ []; are_trees = rw h.is_tree refl; tags = rw (l, h.tags) refl }
