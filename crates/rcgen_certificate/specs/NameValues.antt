-- The value of a distinguished name: a part of one attribute for each entry, in order (RFC 5280, 4.1.2.4).
use Rattle.std.specs.Prelude.{ℕ, Bool, false, cond, List, [], ◌∷◌, map, Option, Some, None}
use Rattle.std.specs.List.{list_all}
use Rattle.asn1_core.specs.Arcs.{is_oid}
use Rattle.der_tree.specs.Element.{Element, element_octets}
use Rattle.der_tree.specs.Tags.{universal}
use Rattle.pkix_name.specs.declared.name.AttributeTypeAndValue.{AttributeTypeAndValue}
use Rattle.pkix_name.specs.declared.name.RelativeDistinguishedName.{RelativeDistinguishedName}
use Rattle.pkix_name.specs.declared.name.Name.{Name}
use Rattle.pkix_name.specs.declared.name.Name.TheVariants.{RdnSequence}
use Rattle.rcgen_text.specs.DnTypes.{type_arcs}
use Rattle.rcgen_text.specs.DnValues.{Text, bmp_string, ia5_string, printable_string, teletex_string, universal_string, utf8_string, text_bytes}
use Rattle.rcgen_text.specs.Names.{Entry}

-- each type of the name is an object identifier
abbrev pub has_types : List Entry → Bool
has_types es = list_all (λ e. is_oid (type_arcs e.dn_type)) es

-- the universal tag of the text's type (X.680, 8.4)
abbrev pub text_number : Text → ℕ
text_number (utf8_string b) = 12
text_number (printable_string b) = 19
text_number (teletex_string b) = 20
text_number (ia5_string b) = 22
text_number (universal_string b) = 28
text_number (bmp_string b) = 30

-- the text as one element of its own tag
abbrev pub text_element : Text → Element
text_element x = record { tag = universal (text_number x); constructed = false; content = text_bytes x }

abbrev pub attribute : Entry → AttributeTypeAndValue
attribute e = record { attr_type = type_arcs e.dn_type; value = element_octets (text_element e.text) }

-- a part of a name that has one attribute
abbrev pub alone : AttributeTypeAndValue → RelativeDistinguishedName
alone a = record { 0 = a ∷ [] }

abbrev pub relative_name : Entry → RelativeDistinguishedName
relative_name e = alone (attribute e)

abbrev pub name_value : List Entry → Name
name_value es = RdnSequence (map relative_name es)

-- the value of an issuer's name, or none where a type of it is no object identifier
abbrev pub issuer_name : List Entry → Option Name
issuer_name es = cond (has_types es) (Some (name_value es)) None
