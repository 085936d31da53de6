-- How names are read: each part has one attribute, whose text goes by the tag of its value (RFC 5280, 4.1.2.4).
use Rattle.std.specs.Prelude.{ℕ, Bool, not, List, [], ◌∷◌, Option, Result, Ok, Err, cond, ok_or, if◌then◌else◌}
use Rattle.std.specs.List.{list_all}
use Rattle.asn1_core.specs.StringTypes.{is_printable}
use Rattle.asn1_core.specs.declared.tag.Tag.{Tag}
use Rattle.der_tree.specs.Element.{Element, one_element}
use Rattle.der_tree.specs.Tags.{same_tag, universal}
use Rattle.pkix_name.specs.Names.{name_parts}
use Rattle.pkix_name.specs.declared.name.AttributeTypeAndValue.{AttributeTypeAndValue}
use Rattle.pkix_name.specs.declared.name.RelativeDistinguishedName.{RelativeDistinguishedName}
use Rattle.pkix_name.specs.declared.name.Name.{Name}
use Rattle.rcgen_text.specs.Causes.{Cause, not_certificate, printable_text, teletex_text, ia5_text, first, when}
use Rattle.rcgen_text.specs.DnTypes.{type_of_arcs}
use Rattle.rcgen_text.specs.DnValues.{Text, bmp_string, ia5_string, printable_string, teletex_string, universal_string, utf8_string}
use Rattle.rcgen_text.specs.Names.{Entry, all_pushed}
use Rattle.rcgen_text.specs.Strings.{is_ia5, is_teletex, is_universal, is_bmp, no_utf32, no_utf16}
use Rattle.rcgen_read.specs.Reading.{and_then, unless_cause, read_each, not_utf8}

-- why octets aren't a text of the set of characters: they aren't UTF-8, or else have another character
abbrev pub set_cause : (ℕ → Bool) → (List ℕ → Cause) → List ℕ → Option Cause
set_cause is_character refused octets = first (not_utf8 octets ∷ when (not (list_all is_character octets)) (refused octets) ∷ [])

-- the text of these contents octets, by the tag of its type (X.680, 8.4), or why they are none
abbrev pub read_contents : Tag → List ℕ → Result Text Cause
read_contents tag octets =
    if same_tag tag (universal 12) then unless_cause (not_utf8 octets) (utf8_string octets)
    else if same_tag tag (universal 19) then unless_cause (set_cause is_printable printable_text octets) (printable_string octets)
    else if same_tag tag (universal 20) then unless_cause (set_cause is_teletex teletex_text octets) (teletex_string octets)
    else if same_tag tag (universal 22) then unless_cause (set_cause is_ia5 ia5_text octets) (ia5_string octets)
    else if same_tag tag (universal 28) then unless_cause (when (not (is_universal octets)) no_utf32) (universal_string octets)
    else if same_tag tag (universal 30) then unless_cause (when (not (is_bmp octets)) no_utf16) (bmp_string octets)
    else Err not_certificate

-- the text of an element, which has to be primitive
abbrev pub read_text : Element → Result Text Cause
read_text s = cond s.constructed (Err not_certificate) (read_contents s.tag s.content)

abbrev pub read_attribute : AttributeTypeAndValue → Result Entry Cause
read_attribute a =
    and_then (ok_or (one_element a.value) not_certificate) (λ s. and_then (read_text s)
    (λ x. Ok (record { dn_type = type_of_arcs a.attr_type; text = x })))

-- the one attribute of a part; none or several are refused
abbrev pub read_attributes : List AttributeTypeAndValue → Result Entry Cause
read_attributes [] = Err not_certificate
read_attributes (a ∷ []) = read_attribute a
read_attributes (a ∷ b ∷ rest) = Err not_certificate

-- the attributes of the parts, in order
abbrev pub read_entries : List RelativeDistinguishedName → Result (List Entry) Cause
read_entries = read_each (λ part. read_attributes part.0) []

-- pushed one after the other: a type that is there keeps its place and gets the text
abbrev pub read_name : Name → Result (List Entry) Cause
read_name n = and_then (read_entries (name_parts n)) (λ es. Ok (all_pushed es))
