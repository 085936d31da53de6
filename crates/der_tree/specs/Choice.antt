-- CHOICE (X.690, 8.13): one type or another.
use Rattle.std.specs.Prelude.{Bool, Option, Result, Some, cond, ◌⊎◌}
use Rattle.std.proofs.Common.{inl, inr}
use Rattle.asn1_core.specs.Binds.{◌>>=◌}
use Rattle.der_tree.specs.declared.error.EncodeError.{EncodeError}
use Rattle.der_tree.specs.Codec.{Codec}
use Rattle.der_tree.specs.Element.{Element}
use Rattle.der_tree.specs.Tags.{has}
use Rattle.der_tree.specs.Tree.{PlainTree}

abbrev pub as_left : {A B : Type 0} → A → Option (A ⊎ B)
as_left v = Some (inl v)

abbrev pub as_right : {A B : Type 0} → B → Option (A ⊎ B)
as_right v = Some (inr v)

module _ {A B : Type 0} (c : Codec A) (d : Codec B) where
  abbrev pub either_tree_of : A ⊎ B → Result PlainTree EncodeError
  either_tree_of (inl v) = c.tree_of v
  either_tree_of (inr v) = d.tree_of v

  -- the first where the tag is one of its own, else the second
  abbrev pub either_read_of : Element → Option (A ⊎ B)
  either_read_of s = cond (has c.starts s.tag) (c.read_of s >>= as_left) (d.read_of s >>= as_right)

  abbrev pub either_has_tree : A ⊎ B → Bool
  either_has_tree (inl v) = c.has_tree v
  either_has_tree (inr v) = d.has_tree v
