-- Fields: required, one after another, as the fields of a struct.
use Rattle.std.specs.Prelude.{Bool, List, None, Ok, Option, Result, Some, cond, [], ◌&&◌, ◌++◌, ◌∷◌, ◌≡◌}
use Rattle.asn1_core.specs.Binds.{◌>>=◌}
use Rattle.der_tree.specs.declared.error.EncodeError.{EncodeError}
use Rattle.der_tree.specs.Codec.{Codec, FieldsOf}
use Rattle.der_tree.specs.Element.{Element}
use Rattle.der_tree.specs.Results.{ok_then}
use Rattle.der_tree.specs.Tags.{Tags, disjoint, join}
use Rattle.der_tree.specs.Tree.{PlainTree}

-- the first element is the value
abbrev pub required_by : {A : Type 0} → (Element → Option A) → List Element → Option (A × List Element)
required_by read_of [] = None
required_by read_of (s ∷ ss) = read_of s >>= λ v. Some (v, ss)

module _ {A : Type 0} (c : Codec A) where
  abbrev pub required_put : A → Result (List PlainTree) EncodeError
  required_put v = ok_then (c.tree_of v) (λ t. Ok (t ∷ []))

  abbrev pub required_get : List Element → Option (A × List Element)
  required_get = required_by c.read_of

-- as proofs above this crate see it
unfoldable pub next_required : {A : Type 0} → (Element → Option A) → List Element → Option (A × List Element)
next_required read_of ss = required_by read_of ss

module _ {A B : Type 0} (f : FieldsOf A) (g : FieldsOf B) where
  -- each field that may come next can be distinguished from those before it
  abbrev pub then_fine : Bool
  then_fine = disjoint f.blocks g.first && (f.fine && g.fine)

  abbrev pub then_put : A × B → Result (List PlainTree) EncodeError
  then_put v = ok_then (f.put v.0) (λ x. ok_then (g.put v.1) (λ y. Ok (x ++ y)))

  abbrev pub then_get : List Element → Option ((A × B) × List Element)
  then_get ss = f.get ss >>= λ x. g.get x.1 >>= λ y. Some ((x.0, y.0), y.1)

  -- the tags that may not follow, since they would be taken for a field that is absent
  abbrev pub then_blocks : Tags
  then_blocks = cond g.may_be_none (join f.blocks g.blocks) g.blocks

  -- the tags with which the fields may begin
  abbrev pub then_first : Tags
  then_first = cond f.may_be_none (join f.first g.first) f.first

module _ {A B : Type 0} (f : FieldsOf A) (to : B → A) (from : A → B) (p : (b : B) → from (to b) ≡ b) (q : (a : A) → to (from a) ≡ a) where
  abbrev pub as_put : B → Result (List PlainTree) EncodeError
  as_put b = f.put (to b)

  abbrev pub as_get : List Element → Option (B × List Element)
  as_get ss = f.get ss >>= λ x. Some (from x.0, x.1)
