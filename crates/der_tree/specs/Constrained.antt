-- The values of a type that meet a constraint (X.680, 51), each with the tree that it has in the type.
use Rattle.std.specs.Prelude.{Bool, Err, None, Option, Result, Some, cond, ◌&&◌}
use Rattle.asn1_core.specs.Binds.{◌>>=◌}
use Rattle.der_tree.specs.declared.error.EncodeError.{EncodeError}
use Rattle.der_tree.specs.declared.error.EncodeError.TheVariants.{SizeOutOfRange}
use Rattle.der_tree.specs.Codec.{Codec}
use Rattle.der_tree.specs.Element.{Element}
use Rattle.der_tree.specs.Tree.{PlainTree}

module _ {A : Type 0} (c : Codec A) (allowed : A → Bool) where
  abbrev pub constrained_tree_of : A → Result PlainTree EncodeError
  constrained_tree_of v = cond (allowed v) (c.tree_of v) (Err SizeOutOfRange)

  abbrev pub constrained_read_of : Element → Option A
  constrained_read_of s = c.read_of s >>= λ v. cond (allowed v) (Some v) None

  abbrev pub constrained_has_tree : A → Bool
  constrained_has_tree v = allowed v && c.has_tree v
