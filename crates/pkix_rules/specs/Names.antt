-- The attributes of a name beside the types that their values are to have (RFC 5280, A.1).
use Rattle.std.specs.Prelude.{Bool, List, [], cond, false, is_some, length, true, ℕ, ◌&&◌, ◌==◌, ◌||◌, ◌∷◌}
use Rattle.std.specs.List.{list_all, list_any}
use Rattle.asn1_core.specs.StringTypes.{printable}
use Rattle.der_tree.specs.CharacterStrings.{ia5_string, text}
use Rattle.der_tree.specs.Codec.{Codec}
use Rattle.der_tree.specs.Form.{value_of}
use Rattle.pkix_name.specs.DirectoryStrings.{directory_string}
use Rattle.pkix_name.specs.Names.{name_parts}
use Rattle.pkix_name.specs.X520.{country_name, x520_text}
use Rattle.pkix_name.specs.declared.name.AttributeTypeAndValue.{AttributeTypeAndValue}
use Rattle.pkix_name.specs.declared.name.Name.{Name}
use Rattle.pkix_rules.specs.Extensions.{is_among}
use Rattle.pkix_rules.specs.Identifiers.{country_names, directory_texts, ia5_texts, printable_texts, texts_to_128, texts_to_64}

-- its value is the DER encoding of one that the codec is of, if the attribute is of one of these types
abbrev pub attribute_fits : {A : Type 0} → Codec A → List (List ℕ) → AttributeTypeAndValue → Bool
attribute_fits c ids a = cond (is_among a.attr_type ids) (is_some (value_of c a.value)) true

abbrev pub attributes_fit : {A : Type 0} → Codec A → List (List ℕ) → List AttributeTypeAndValue → Bool
attributes_fit c ids attributes = list_all (attribute_fits c ids) attributes

abbrev pub name_fits : {A : Type 0} → Codec A → List (List ℕ) → Name → Bool
name_fits c ids n = list_all (λ part. attributes_fit c ids part.0) (name_parts n)

-- X520countryName ::= PrintableString (SIZE (2)): so is each country name (RFC 5280, 4.1.2.6, A.1)
abbrev pub countries_fit : Name → Bool
countries_fit n = name_fits country_name country_names n

-- DomainComponent ::= IA5String, EmailAddress ::= IA5String, here of any length (RFC 5280, 4.1.2.6, A.1)
abbrev pub are_ia5_texts : Name → Bool
are_ia5_texts n = name_fits ia5_string ia5_texts n

-- X520SerialNumber ::= PrintableString, X520dnQualifier ::= PrintableString, here of any length (RFC 5280, A.1)
abbrev pub are_printable_texts : Name → Bool
are_printable_texts n = name_fits (text printable) printable_texts n

-- X520CommonName, X520OrganizationName and so on: a DirectoryString, which has a character at least (RFC 5280, 4.1.2.4, A.1)
abbrev pub are_texts : Name → Bool
are_texts n = name_fits directory_string directory_texts n

-- ub-common-name, ub-organization-name, ub-organizational-unit-name and ub-title are 64; ub-locality-name, ub-state-name and ub-pseudonym 128
-- (RFC 5280, A.1)
abbrev pub are_short_texts : Name → Bool
are_short_texts n = name_fits (x520_text 3) texts_to_64 n && name_fits (x520_text 7) texts_to_128 n

-- an identifier octet and a length octet alone: each of these types has a character at least (RFC 5280, A.1)
abbrev pub is_empty_text : AttributeTypeAndValue → Bool
is_empty_text a = length a.value == 2

abbrev pub has_empty_text : Name → Bool
has_empty_text n = list_any (λ part. list_any is_empty_text part.0) (name_parts n)

-- TeletexString, UniversalString and BMPString, universal 20, 28 and 30 (RFC 5280, 4.1.2.4)
abbrev pub begins_old : List ℕ → Bool
begins_old [] = false
begins_old (tag ∷ rest) = (tag == 20) || (tag == 28) || (tag == 30)

abbrev pub is_old_text : AttributeTypeAndValue → Bool
is_old_text a = begins_old a.value

abbrev pub has_old_text : Name → Bool
has_old_text n = list_any (λ part. list_any is_old_text part.0) (name_parts n)

-- the name has no part (RFC 5280, 4.1.2.4)
abbrev pub is_empty_name : Name → Bool
is_empty_name n = length (name_parts n) == 0
