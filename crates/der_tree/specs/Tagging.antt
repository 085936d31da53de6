-- Tagged types (X.680, 31; X.690, 8.14): EXPLICIT, a node around the tree, and IMPLICIT, the tree under another tag.
use Rattle.std.specs.Prelude.{Bool, None, Ok, Option, Result, cond, is_some, nat_lt, unwrap_or, [], ◌&&◌, ◌^◌, ◌∷◌}
use Rattle.asn1_core.specs.Binds.{◌>>=◌}
use Rattle.asn1_core.specs.Tags.{universal}
use Rattle.asn1_core.specs.declared.tag.Tag.{Tag}
use Rattle.der_tree.specs.declared.error.EncodeError.{EncodeError}
use Rattle.der_tree.specs.Codec.{Codec, with_fields}
use Rattle.der_tree.specs.Element.{Element}
use Rattle.der_tree.specs.Fields.{next_required}
use Rattle.der_tree.specs.Results.{ok_then}
use Rattle.der_tree.specs.Sequence.{children, ended, node_of}
use Rattle.der_tree.specs.Tags.{same_tag}
use Rattle.der_tree.specs.Tree.{PlainTree, retagged}

-- the element under another tag
abbrev pub shown_as : Tag → Element → Element
shown_as g s = record { tag = g; constructed = s.constructed; content = s.content }

-- a type's own tag, where it has one
abbrev pub own_tag : {A : Type 0} → Codec A → Tag
own_tag c = unwrap_or c.tag (universal 0)

-- its tag may be replaced
abbrev pub is_tagged : {A : Type 0} → Codec A → Bool
is_tagged c = is_some c.tag && nat_lt (own_tag c).number (2 ^ 32)

-- IMPLICIT: the tree under the tag
abbrev pub tagged_tree_of : {A : Type 0} → Tag → Codec A → A → Result PlainTree EncodeError
tagged_tree_of g c v = ok_then (c.tree_of v) (λ t. Ok (retagged g t))

-- IMPLICIT: what the element shows under the type's own tag
abbrev pub tagged_read_of : {A : Type 0} → Tag → Codec A → Element → Option A
tagged_read_of g c s = cond (same_tag s.tag g) (c.read_of (shown_as (own_tag c) s)) None

-- EXPLICIT: a node of the tag around the tree
abbrev pub tree_within : {A : Type 0} → Tag → (A → Result PlainTree EncodeError) → A → Result PlainTree EncodeError
tree_within g tree_of v = node_of g (ok_then (tree_of v) (λ t. Ok (t ∷ [])))

-- EXPLICIT: what the only element within shows
abbrev pub read_within : {A : Type 0} → Tag → (Element → Option A) → Element → Option A
read_within g read_of s = children g s >>= λ ss. with_fields ended (next_required read_of ss)
