-- The numbers of ENUMERATED values (X.690, 8.4), and the types whose values have them.
use Rattle.std.specs.Prelude.{Bool, List, None, Option, Result, Some, cond, nat_lt, ℕ, [], ◌==◌, ◌^◌, ◌∷◌}
use Rattle.asn1_core.specs.Binds.{◌>>=◌}
use Rattle.asn1_core.specs.Tags.{universal}
use Rattle.asn1_core.specs.Unsigned.{unsigned_64_contents}
use Rattle.der_tree.specs.declared.error.EncodeError.{EncodeError}
use Rattle.der_tree.specs.declared.error.EncodeError.TheVariants.{SizeOutOfRange}
use Rattle.der_tree.specs.Element.{Element}
use Rattle.der_tree.specs.Primitive.{leaf_read_of, leaf_tree_of}
use Rattle.der_tree.specs.Tree.{PlainTree}

-- the contents octets are those of the INTEGER with the number
abbrev pub number_tree_of : ℕ → Result PlainTree EncodeError
number_tree_of n = leaf_tree_of (universal 10) SizeOutOfRange unsigned_64_contents n

abbrev pub number_read_of : Element → Option ℕ
number_read_of s = leaf_read_of (universal 10) SizeOutOfRange unsigned_64_contents s

-- the first of the values with the number
abbrev pub value_numbered : {A : Type 0} → (A → ℕ) → List A → ℕ → Option A
value_numbered number [] n = None
value_numbered number (v ∷ vs) n = cond (n == number v) (Some v) (value_numbered number vs n)

module _ {A : Type 0} (number : A → ℕ) (values : List A) where
  abbrev pub enumerated_tree_of : A → Result PlainTree EncodeError
  enumerated_tree_of v = number_tree_of (number v)

  abbrev pub enumerated_read_of : Element → Option A
  enumerated_read_of s = number_read_of s >>= value_numbered number values

  abbrev pub enumerated_has_tree : A → Bool
  enumerated_has_tree v = nat_lt (number v) (2 ^ 64)
