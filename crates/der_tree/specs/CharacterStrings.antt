-- The restricted character string types (X.690, 8.23), and those whose number of characters is bounded.
use Rattle.std.specs.Prelude.{Bool, List, None, Ok, Option, Result, cond, ℕ, ◌&&◌}
use Rattle.asn1_core.specs.StringTypes.{StringType, ia5}
use Rattle.asn1_core.specs.Tags.{universal}
use Rattle.asn1_core.specs.Texts.{a_text, char_count, text_contents}
use Rattle.asn1_core.specs.declared.tag.Tag.{Tag}
use Rattle.der_tree.specs.declared.error.EncodeError.{EncodeError}
use Rattle.der_tree.specs.declared.error.EncodeError.TheVariants.{SizeOutOfRange}
use Rattle.der_tree.specs.Codec.{Codec}
use Rattle.der_tree.specs.Constrained.{constrained_read_of, constrained_tree_of}
use Rattle.der_tree.specs.Element.{Element}
use Rattle.der_tree.specs.Primitive.{is_text}
use Rattle.der_tree.specs.PrimitiveTypes.{primitive}
use Rattle.der_tree.specs.Results.{ok_then}
use Rattle.der_tree.specs.SequenceOf.{is_within}
use Rattle.der_tree.specs.Tagging.{shown_as}
use Rattle.der_tree.specs.Tags.{same_tag}
use Rattle.der_tree.specs.Tree.{PlainTree, retagged}
use Rattle.der_tree.specs.laws.PrimitiveTypes.{text_has}

abbrev pub text : StringType → Codec (List ℕ)
text s = primitive (universal s.number) SizeOutOfRange (text_contents s) (is_text s) (text_has s) (s.long 0).0 (a_text s)

abbrev pub ia5_string : Codec (List ℕ)
ia5_string = text ia5

module _ (s : StringType) (low : ℕ) (high : Option ℕ) where
  abbrev pub is_sized : List ℕ → Bool
  is_sized octets = is_within low high (char_count s octets)

  unfoldable pub sized_tree_of : List ℕ → Result PlainTree EncodeError
  sized_tree_of octets = constrained_tree_of (text s) is_sized octets

  unfoldable pub sized_read_of : Element → Option (List ℕ)
  sized_read_of e = constrained_read_of (text s) is_sized e

  -- a text of the type with so many characters
  abbrev pub is_sized_text : List ℕ → Bool
  is_sized_text octets = is_sized octets && is_text s octets

-- the same under an implicit tag
abbrev pub sized_tree_under : Tag → StringType → ℕ → Option ℕ → List ℕ → Result PlainTree EncodeError
sized_tree_under g s low high v = ok_then (sized_tree_of s low high v) (λ t. Ok (retagged g t))

abbrev pub sized_read_under : Tag → StringType → ℕ → Option ℕ → Element → Option (List ℕ)
sized_read_under g s low high e = cond (same_tag e.tag g) (sized_read_of s low high (shown_as (universal s.number) e)) None
