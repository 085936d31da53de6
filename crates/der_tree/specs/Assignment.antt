-- A type under a name of its own (X.680, 16): its values as those of another type.
use Rattle.std.specs.Prelude.{Option, Result, Some, ◌≡◌}
use Rattle.asn1_core.specs.Binds.{◌>>=◌}
use Rattle.der_tree.specs.declared.error.EncodeError.{EncodeError}
use Rattle.der_tree.specs.Codec.{Codec}
use Rattle.der_tree.specs.Element.{Element}
use Rattle.der_tree.specs.Tree.{PlainTree}

module _ {A B : Type 0} (c : Codec A) (to : B → A) (from : A → B) (p : (b : B) → from (to b) ≡ b) (q : (a : A) → to (from a) ≡ a) where
  -- the tree of the underlying value
  abbrev pub type_tree_of : B → Result PlainTree EncodeError
  type_tree_of v = c.tree_of (to v)

  abbrev pub type_read_of : Element → Option B
  type_read_of s = c.read_of s >>= λ v. Some (from v)
