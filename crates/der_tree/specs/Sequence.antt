-- SEQUENCE (X.690, 8.9): one node around the trees of its fields.
use Rattle.std.specs.Prelude.{Bool, List, None, Ok, Option, Result, Some, cond, false, true, [], ◌&&◌, ◌∷◌}
use Rattle.asn1_core.specs.Binds.{◌>>=◌}
use Rattle.asn1_core.specs.declared.tag.Tag.{Tag}
use Rattle.der_tree.specs.declared.error.EncodeError.{EncodeError}
use Rattle.der_tree.specs.Codec.{FieldsOf, Struct}
use Rattle.der_tree.specs.Element.{Element, split}
use Rattle.der_tree.specs.Results.{ok_then}
use Rattle.der_tree.specs.Tags.{same_tag}
use Rattle.der_tree.specs.Tree.{PlainTree, node, row}

abbrev pub nothing_left : List Element → Bool
nothing_left [] = true
nothing_left (s ∷ ss) = false

-- nothing may come after the last field
unfoldable pub at_end : List Element → Option (Unit {0})
at_end rest = cond (nothing_left rest) (Some tt) None

abbrev pub ended : {A : Type 0} → A → List Element → Option A
ended v rest = at_end rest >>= λ u. Some v

-- the children of a node of the tag
abbrev pub opened_at : Tag → Element → Option (List Element)
opened_at g s = cond (same_tag s.tag g && s.constructed) (split s.content) None

unfoldable pub children : Tag → Element → Option (List Element)
children g s = opened_at g s

-- a node of the tag around trees
abbrev pub node_of : Tag → Result (List PlainTree) EncodeError → Result PlainTree EncodeError
node_of g r = ok_then r (λ ts. Ok (node g (row ts)))

module _ {A : Type 0} (g : Tag) (f : FieldsOf A) where
  abbrev pub node_tree_of : A → Result PlainTree EncodeError
  node_tree_of v = node_of g (f.put v)

  abbrev pub node_read_of : Element → Option A
  node_read_of s = children g s >>= λ ss. f.read ss ended

-- the value whose fields the first elements are, and the elements after them
abbrev pub fields_read : {A : Type 0} → Struct A → List Element → Option (A × List Element)
fields_read x ss = x.fields.read ss (λ v rest. Some (v, rest))
