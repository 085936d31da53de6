-- A part of a name as text: attributes, with a plus sign between two (RFC 4514, 2.2).
use Rattle.std.specs.Prelude.{ℕ, nat_eq, not, Bool, ◌&&◌, cond, List, [], ◌∷◌, ◌++◌, Option, Some, None}
use Rattle.std.specs.Cmp.Lexicographic.{pointwise}
use Rattle.std.specs.List.{list_any}
use Rattle.asn1_core.specs.Binds.{◌>>=◌}
use Rattle.der_tree.specs.SetOf.{has_form, inserted}
use Rattle.pkix_name.specs.Names.{attribute_type_and_value}
use Rattle.pkix_name.specs.declared.name.AttributeTypeAndValue.{AttributeTypeAndValue}
use Rattle.pkix_name.specs.declared.name.RelativeDistinguishedName.{RelativeDistinguishedName}
use Rattle.name_parts.specs.Attributes.{attribute, is_plain}
use Rattle.name_parts.specs.Octets.{octets}
use Rattle.name_parts.specs.declared.octet.Octet.{Octet}

abbrev pub is_plus : Octet → Bool
is_plus o = is_plain 43 o

abbrev pub has_type : List AttributeTypeAndValue → List ℕ → Bool
has_type set arcs = list_any (λ a. pointwise nat_eq a.attr_type arcs) set

-- the attributes with one more, in the order of DER (X.690, 11.6): its type isn't there yet (X.501, 9.3), and it has a DER encoding, as each of
-- fewer than 2^64 octets has
unfoldable pub added : List AttributeTypeAndValue → AttributeTypeAndValue → Option (List AttributeTypeAndValue)
added set a = cond (not (has_type set a.attr_type) && has_form attribute_type_and_value a) (Some (inserted attribute_type_and_value set a)) None

-- the attributes with the one that the octets represent
unfoldable pub joined : List AttributeTypeAndValue → List Octet → Option (List AttributeTypeAndValue)
joined set octets = attribute octets >>= λ a. added set a

-- the attributes before here, those octets of the next one that come before here, and the octets from here
abbrev pub attributes_from : List AttributeTypeAndValue → List Octet → List Octet → Option (List AttributeTypeAndValue)
attributes_from set front [] = joined set front
attributes_from set front (o ∷ rest) =
    cond (is_plus o) (joined set front >>= λ more. attributes_from more [] rest) (attributes_from set (front ++ o ∷ []) rest)

unfoldable pub attributes : List Octet → Option (List AttributeTypeAndValue)
attributes octets = attributes_from [] [] octets

-- the part that a text represents
unfoldable pub relative_name : List ℕ → Option RelativeDistinguishedName
relative_name text = octets text >>= λ os. attributes os >>= λ set. Some (record { 0 = set })
