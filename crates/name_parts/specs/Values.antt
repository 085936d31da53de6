-- The value of an attribute: a text of the kind of string of its type, as one element.
use Rattle.std.specs.Prelude.{ℕ, false, cond, is_none, List, Option, Some, None}
use Rattle.asn1_core.specs.StringTypes.{StringType, ia5, numeric, printable, utf8}
use Rattle.asn1_core.specs.Tags.{universal}
use Rattle.asn1_core.specs.Texts.{fault_of}
use Rattle.der_tree.specs.Element.{element_octets}
use Rattle.name_parts.specs.declared.types.Kind.{Kind}
use Rattle.name_parts.specs.declared.types.Kind.TheVariants.{Numeric, Printable, Ia5, Utf8}

-- the octets as a string of the type (X.690, 8.23), where they are one's contents
abbrev pub string_element : StringType → List ℕ → Option (List ℕ)
string_element s octets =
    cond (is_none (fault_of s octets)) (Some (element_octets (record { tag = universal s.number; constructed = false; content = octets }))) None

abbrev pub value : Kind → List ℕ → Option (List ℕ)
value Numeric octets = string_element numeric octets
value Printable octets = string_element printable octets
value Ia5 octets = string_element ia5 octets
value Utf8 octets = string_element utf8 octets
