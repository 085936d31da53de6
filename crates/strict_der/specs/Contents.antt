-- The contents octets of primitive elements, by the number of their universal tag (X.690, 8 and 11).
use Rattle.std.specs.Prelude.{ℕ, Bool, true, false, ◌&&◌, ◌||◌, ◌==◌, not, nat_lt, nat_le, if◌then◌else◌, is_some, length, List, [], ◌∷◌}
use Rattle.asn1_core.specs.Bits.{bit_string_contents}
use Rattle.asn1_core.specs.GeneralizedTime.{generalized_time_contents}
use Rattle.asn1_core.specs.Octets.{boolean_contents, null_contents}
use Rattle.asn1_core.specs.StringTypes.{bmp, ia5, numeric, printable, universal_string, utf8, visible}
use Rattle.asn1_core.specs.Twos.{integer_contents}
use Rattle.asn1_core.specs.UtcTime.{utc_time_contents}
use Rattle.der_tree.specs.Primitive.{is_text}

-- octets are whole subidentifiers: the first octet of each isn't 80 (8.19.2), and bit 8 is 0 in the last of each alone; where the next octet begins
-- one or not is said
abbrev pub are_subidentifiers : Bool → List ℕ → Bool
are_subidentifiers begins [] = begins
are_subidentifiers begins (b ∷ rest) = not (begins && b == 128) && are_subidentifiers (nat_lt b 128) rest

-- one at least, and nothing else (8.19, 8.20): however large
abbrev pub is_identifier : List ℕ → Bool
is_identifier octets = not (length octets == 0) && are_subidentifiers true octets

-- plus zero has no octets (8.5.2), and one octet says minus zero, an infinity or that it is no number (8.5.9); other numbers aren't judged, and refused
abbrev pub is_special_real : List ℕ → Bool
is_special_real [] = true
is_special_real (b ∷ []) = nat_le 64 b && nat_le b 67
is_special_real (a ∷ b ∷ rest) = false

-- types whose contents are any octets: OCTET STRING, and ObjectDescriptor, TeletexString, VideotexString, GraphicString and GeneralString, of which the
-- characters aren't judged (8.7, 8.23)
abbrev pub takes_any_octets : ℕ → Bool
takes_any_octets n = n == 4 || n == 7 || n == 20 || n == 21 || n == 25 || n == 27

-- the octets are whole characters of the type (8.23)
unfoldable pub are_characters : ℕ → List ℕ → Bool
are_characters n octets =
    if n == 12 then is_text utf8 octets
    else if n == 18 then is_text numeric octets
    else if n == 19 then is_text printable octets
    else if n == 22 then is_text ia5 octets
    else if n == 26 then is_text visible octets
    else if n == 28 then is_text universal_string octets
    else n == 30 && is_text bmp octets

-- the octets are the contents of a primitive element of the type: BOOLEAN (8.2, 11.1), INTEGER and ENUMERATED (8.3, 8.4), BIT STRING (8.6, 11.2), NULL (8.8),
-- OBJECT IDENTIFIER and RELATIVE-OID (8.19, 8.20), REAL (8.5), both times (11.7, 11.8) and the string types, which are primitive (10.2); of other types none
unfoldable pub are_contents : ℕ → List ℕ → Bool
are_contents n octets =
    if n == 1 then is_some (boolean_contents.of octets)
    else if n == 2 || n == 10 then is_some (integer_contents.of octets)
    else if n == 3 then is_some (bit_string_contents.of octets)
    else if n == 5 then is_some (null_contents.of octets)
    else if n == 6 || n == 13 then is_identifier octets
    else if n == 9 then is_special_real octets
    else if n == 23 then is_some (utc_time_contents.of octets)
    else if n == 24 then is_some (generalized_time_contents.of octets)
    else takes_any_octets n || are_characters n octets
