-- SEQUENCE OF (X.690, 8.10): all elements as values of one type, with bounds on how many.
use Rattle.std.specs.Prelude.{Bool, Err, List, None, Ok, Option, Result, Some, cond, length, nat_le, ℕ, [], ◌&&◌, ◌∷◌}
use Rattle.std.specs.List.{list_all}
use Rattle.asn1_core.specs.Binds.{◌>>=◌}
use Rattle.asn1_core.specs.Tags.{universal}
use Rattle.der_tree.specs.declared.error.EncodeError.{EncodeError}
use Rattle.der_tree.specs.declared.error.EncodeError.TheVariants.{SizeOutOfRange}
use Rattle.der_tree.specs.Codec.{Codec, with_fields}
use Rattle.der_tree.specs.Element.{Element}
use Rattle.der_tree.specs.Results.{ok_then}
use Rattle.der_tree.specs.Sequence.{children, ended, node_of}
use Rattle.der_tree.specs.Tree.{PlainTree}

module _ {A : Type 0} (c : Codec A) where
  -- a tree for each value
  abbrev pub each_put : List A → Result (List PlainTree) EncodeError
  each_put [] = Ok []
  each_put (v ∷ vs) = ok_then (c.tree_of v) (λ t. ok_then (each_put vs) (λ ts. Ok (t ∷ ts)))

  -- a value for each element
  abbrev pub each_of : List Element → Option (List A)
  each_of [] = Some []
  each_of (s ∷ ss) = c.read_of s >>= λ v. each_of ss >>= λ vs. Some (v ∷ vs)

-- a count within bounds
abbrev pub is_within : ℕ → Option ℕ → ℕ → Bool
is_within low None n = nat_le low n
is_within low (Some high) n = nat_le low n && nat_le n high

module _ {A : Type 0} (c : Codec A) (low : ℕ) (high : Option ℕ) where
  abbrev pub list_put : List A → Result (List PlainTree) EncodeError
  list_put vs = cond (is_within low high (length vs)) (each_put c vs) (Err SizeOutOfRange)

  abbrev pub within : List A → Option (List A)
  within vs = cond (is_within low high (length vs)) (Some vs) None

  abbrev pub list_get : List Element → Option (List A × List Element)
  list_get ss = each_of c ss >>= λ vs. within vs >>= λ vs. Some (vs, [])

  abbrev pub list_has_trees : List A → Bool
  list_has_trees vs = is_within low high (length vs) && list_all c.has_tree vs

-- all that is left, as values of one type, so many
unfoldable pub next_list : {A : Type 0} → Codec A → ℕ → Option ℕ → List Element → Option (List A × List Element)
next_list c low high ss = list_get c low high ss

module _ {A : Type 0} (c : Codec A) (low : ℕ) (high : Option ℕ) where
  abbrev pub sequence_tree_of : List A → Result PlainTree EncodeError
  sequence_tree_of vs = node_of (universal 16) (list_put c low high vs)

  abbrev pub sequence_read_of : Element → Option (List A)
  sequence_read_of s = children (universal 16) s >>= λ ss. with_fields ended (next_list c low high ss)
