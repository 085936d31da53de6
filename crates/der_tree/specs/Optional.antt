-- OPTIONAL fields (X.680, 25).
use Rattle.std.specs.Prelude.{Bool, List, None, Ok, Option, Result, Some, cond, true, [], ◌∷◌}
use Rattle.asn1_core.specs.Binds.{◌>>=◌}
use Rattle.der_tree.specs.declared.error.EncodeError.{EncodeError}
use Rattle.der_tree.specs.Codec.{Codec}
use Rattle.der_tree.specs.Element.{Element}
use Rattle.der_tree.specs.Results.{ok_then}
use Rattle.der_tree.specs.Tags.{Tags, has}
use Rattle.der_tree.specs.Tree.{PlainTree}

-- no tree, or one
abbrev pub optional_by : {A : Type 0} → (A → Result PlainTree EncodeError) → Option A → Result (List PlainTree) EncodeError
optional_by tree_of None = Ok []
optional_by tree_of (Some v) = ok_then (tree_of v) (λ t. Ok (t ∷ []))

abbrev pub present_with : {A : Type 0} → List Element → A → Option (Option A × List Element)
present_with ss v = Some (Some v, ss)

abbrev pub absent_with : {A : Type 0} → List Element → Option (Option A × List Element)
absent_with ss = Some (None, ss)

-- the first element is the value exactly where its tag is one of the type's
abbrev pub optional_at : {A : Type 0} → Tags → (Element → Option A) → List Element → Option (Option A × List Element)
optional_at starts read_of [] = Some (None, [])
optional_at starts read_of (s ∷ ss) = cond (has starts s.tag) (read_of s >>= present_with ss) (absent_with (s ∷ ss))

module _ {A : Type 0} (c : Codec A) where
  abbrev pub optional_put : Option A → Result (List PlainTree) EncodeError
  optional_put = optional_by c.tree_of

  abbrev pub optional_get : List Element → Option (Option A × List Element)
  optional_get = optional_at c.starts c.read_of

  -- what is absent needs no tree
  abbrev pub if_there : Option A → Bool
  if_there None = true
  if_there (Some v) = c.has_tree v

-- as proofs above this crate see it
unfoldable pub next_optional : {A : Type 0} → Tags → (Element → Option A) → List Element → Option (Option A × List Element)
next_optional starts read_of ss = optional_at starts read_of ss
