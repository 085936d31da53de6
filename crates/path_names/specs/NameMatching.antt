-- Which names are one (RFC 5280, 7.1).
use Rattle.std.specs.Prelude.{Bool, List, None, Option, Some, cond, false, length, map, nat_le, take, true, ℕ, [], ◌&&◌, ◌==◌, ◌∷◌}
use Rattle.std.specs.Char.{is_ascii, to_ascii_lowercase}
use Rattle.std.specs.Cmp.Lexicographic.{pointwise}
use Rattle.std.specs.List.{list_all, list_any}
use Rattle.std.specs.Str.{bytes_eq}
use Rattle.asn1_core.specs.StringTypes.{bmp, universal_string, utf8}
use Rattle.asn1_core.specs.Tags.{universal}
use Rattle.asn1_core.specs.declared.tag.Tag.{Tag}
use Rattle.der_tree.specs.Element.{Element, one_element}
use Rattle.der_tree.specs.Primitive.{is_text}
use Rattle.der_tree.specs.Tags.{same_tag}
use Rattle.pkix_name.specs.declared.name.AttributeTypeAndValue.{AttributeTypeAndValue}
use Rattle.pkix_name.specs.declared.name.RelativeDistinguishedName.{RelativeDistinguishedName}
use Rattle.pkix_name.specs.declared.name.Name.{Name}
use Rattle.pkix_name.specs.declared.name.Name.TheVariants.{RdnSequence}
use Rattle.path_names.specs.Preparation.{is_in, is_preparable, prepared}

-- ---- attributes

-- the same letters of ASCII, without case
abbrev pub same_text : List ℕ → List ℕ → Bool
same_text a b = bytes_eq (map to_ascii_lowercase a) (map to_ascii_lowercase b)

-- what the value of an attribute is compared by
pub data Compared : Type 0 where
  -- a text of Unicode, prepared
  text : List ℕ → Compared
  -- a text that can't be prepared: its element's octets
  unprepared : List ℕ → Compared
  -- an element of another type: its octets
  octets : List ℕ → Compared

-- the types of texts, by their universal numbers (X.680, 8.4, table 1): ObjectDescriptor; UTF8String; NumericString, PrintableString,
-- TeletexString, VideotexString and IA5String; GraphicString, VisibleString, GeneralString, UniversalString, CHARACTER STRING and BMPString
abbrev pub text_types : List (ℕ × ℕ)
text_types = (7, 7) ∷ (12, 12) ∷ (18, 22) ∷ (25, 30) ∷ []

-- those whose octets are read as characters of ASCII, of the type's own set or not: NumericString, PrintableString, TeletexString; IA5String; VisibleString
abbrev pub ascii_types : List (ℕ × ℕ)
ascii_types = (18, 20) ∷ (22, 22) ∷ (26, 26) ∷ []

abbrev pub is_text_type : Tag → Bool
is_text_type t = same_tag t (universal t.number) && is_in text_types t.number

abbrev pub characters_if : Bool → List ℕ → Option (List ℕ)
characters_if is_valid cs = cond is_valid (Some cs) None

-- the codes of the characters that contents octets of the type are (RFC 4518, 2.1); none where they are invalid, or no standard maps them to Unicode
abbrev pub characters_of : ℕ → List ℕ → Option (List ℕ)
characters_of number b =
    cond (is_in ascii_types number) (characters_if (list_all is_ascii b) b)
    (cond (number == 12) (characters_if (is_text utf8 b) (utf8.characters b))
    (cond (number == 28) (characters_if (is_text universal_string b) (universal_string.characters b))
    (cond (number == 30) (characters_if (is_text bmp b) (bmp.characters b)) None)))

-- of a text's element; X.690, 10.2 has no constructed ones
abbrev pub characters_in : Element → Option (List ℕ)
characters_in e = cond e.constructed None (characters_of e.tag.number e.content)

abbrev pub compared_text : List ℕ → Option (List ℕ) → Compared
compared_text b None = unprepared b
compared_text b (Some cs) = cond (is_preparable cs) (text (prepared cs)) (unprepared b)

abbrev pub compared_element : List ℕ → Option Element → Compared
compared_element b None = unprepared b
compared_element b (Some e) = cond (is_text_type e.tag) (compared_text b (characters_in e)) (octets b)

-- of an element's octets
abbrev pub compared : List ℕ → Compared
compared b = compared_element b (one_element b)

abbrev pub are_equal : Compared → Compared → Bool
are_equal (text a) (text b) = bytes_eq a b
are_equal (unprepared a) (unprepared b) = bytes_eq a b
are_equal (octets a) (octets b) = bytes_eq a b
are_equal a b = false

abbrev pub attributes_match : AttributeTypeAndValue → AttributeTypeAndValue → Bool
attributes_match a b = bytes_eq a.attr_type b.attr_type && are_equal (compared a.value) (compared b.value)

-- whether the value isn't a text that can't be prepared
abbrev pub is_defined : Compared → Bool
is_defined (text t) = true
is_defined (unprepared b) = false
is_defined (octets b) = true

abbrev pub has_defined_value : AttributeTypeAndValue → Bool
has_defined_value a = is_defined (compared a.value)

-- ---- names

-- each attribute of the first part matches one of the second
abbrev pub has_each : List AttributeTypeAndValue → List AttributeTypeAndValue → Bool
has_each r s = list_all (λ a. list_any (attributes_match a) s) r

-- as many attributes, each of either with one that it matches in the other: where a part has an attribute twice, one way alone
-- would depend on which part comes first
abbrev pub rdns_match : RelativeDistinguishedName → RelativeDistinguishedName → Bool
rdns_match r s = (length r.0 == length s.0) && has_each r.0 s.0 && has_each s.0 r.0

abbrev pub rdns_of : Name → List RelativeDistinguishedName
rdns_of (RdnSequence rdns) = rdns

-- as many parts, which match in their order
abbrev pub names_match : Name → Name → Bool
names_match m n = pointwise rdns_match (rdns_of m) (rdns_of n)

-- the name matches the base, its further parts aside
abbrev pub is_below_name : Name → Name → Bool
is_below_name name base =
    nat_le (length (rdns_of base)) (length (rdns_of name)) && pointwise rdns_match (take (length (rdns_of base)) (rdns_of name)) (rdns_of base)

-- each value of the part can be compared
abbrev pub is_defined_part : RelativeDistinguishedName → Bool
is_defined_part r = list_all has_defined_value r.0

-- the first part that doesn't match the base's has no text that can't be prepared, nor has the base's: where all match, or the two are
-- known to differ, what the other texts are makes no difference
abbrev pub are_decided : List RelativeDistinguishedName → List RelativeDistinguishedName → Bool
are_decided [] base = true
are_decided (r ∷ rdns) [] = true
are_decided (r ∷ rdns) (s ∷ base) = cond (rdns_match r s) (are_decided rdns base) (is_defined_part r && is_defined_part s)

-- whether the name is below the base is known
abbrev pub is_decided_below : Name → Name → Bool
is_decided_below name base = are_decided (rdns_of name) (rdns_of base)
