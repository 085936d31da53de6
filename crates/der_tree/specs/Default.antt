-- DEFAULT fields (X.680, 25; X.690, 11.5): not written where the value is the default.
use Rattle.std.specs.Prelude.{Bool, List, None, Option, Result, Some, cond, true, [], ◌∷◌}
pub use mathlib.Core.Bool.{beq}
use Rattle.asn1_core.specs.Binds.{◌>>=◌}
use Rattle.der_tree.specs.declared.error.EncodeError.{EncodeError}
use Rattle.der_tree.specs.Codec.{Codec, FieldsOf}
use Rattle.der_tree.specs.Element.{Element}
use Rattle.der_tree.specs.Optional.{optional_get}
use Rattle.der_tree.specs.Tree.{PlainTree}

-- as proofs above this crate see it: a row of fields with defaults isn't taken apart by cases
unfoldable pub unless_default : {A : Type 0} → (A → A → Bool) → A → A → Option A
unless_default eq d v = cond (eq v d) None (Some v)

-- a default that is written is none
abbrev pub or_default : {A : Type 0} → (A → A → Bool) → A → Option A → Option A
or_default eq d None = Some d
or_default eq d (Some v) = cond (eq v d) None (Some v)

-- the value that the field shows, where it may be read
abbrev pub default_with : {A : Type 0} → (A → A → Bool) → A → Option A × List Element → Option (A × List Element)
default_with eq d x = or_default eq d x.0 >>= λ v. Some (v, x.1)

abbrev pub default_put : {A : Type 0} → FieldsOf (Option A) → (A → A → Bool) → A → A → Result (List PlainTree) EncodeError
default_put f eq d v = f.put (unless_default eq d v)

abbrev pub default_get : {A : Type 0} → FieldsOf (Option A) → (A → A → Bool) → A → List Element → Option (A × List Element)
default_get f eq d ss = f.get ss >>= default_with eq d

unfoldable pub value_or_default : {A : Type 0} → (A → A → Bool) → A → Option A → Option A
value_or_default eq d x = or_default eq d x

abbrev pub default_then : {A B : Type 0} → (A → A → Bool) → A → (A → List Element → Option B) → Option A → List Element → Option B
default_then eq d k x rest = value_or_default eq d x >>= λ v. k v rest

-- a field with a default at once
unfoldable pub next_defaulted : {A : Type 0} → Codec A → (A → A → Bool) → A → List Element → Option (A × List Element)
next_defaulted c eq d ss = optional_get c ss >>= default_with eq d

-- ---- where the default is the empty list
unfoldable pub unless_empty : {A : Type 0} → List A → Option (List A)
unless_empty [] = None
unless_empty (v ∷ vs) = Some (v ∷ vs)

-- an empty list that is written is none
abbrev pub or_empty : {A : Type 0} → Option (List A) → Option (List A)
or_empty None = Some []
or_empty (Some []) = None
or_empty (Some (v ∷ vs)) = Some (v ∷ vs)

unfoldable pub value_or_empty : {A : Type 0} → Option (List A) → Option (List A)
value_or_empty o = or_empty o

abbrev pub empty_with : {A : Type 0} → Option (List A) × List Element → Option (List A × List Element)
empty_with x = or_empty x.0 >>= λ v. Some (v, x.1)

abbrev pub empty_then : {A B : Type 0} → (List A → List Element → Option B) → Option (List A) → List Element → Option B
empty_then k x rest = value_or_empty x >>= λ v. k v rest

module _ {A : Type 0} (f : FieldsOf (Option (List A))) where
  -- as with a default, which is the empty list
  abbrev pub empty_put : List A → Result (List PlainTree) EncodeError
  empty_put vs = f.put (unless_empty vs)

  abbrev pub empty_get : List Element → Option (List A × List Element)
  empty_get ss = f.get ss >>= empty_with

-- an empty list needs no tree
abbrev pub if_not_empty : {A : Type 0} → Codec (List A) → List A → Bool
if_not_empty c [] = true
if_not_empty c (v ∷ vs) = c.has_tree (v ∷ vs)
