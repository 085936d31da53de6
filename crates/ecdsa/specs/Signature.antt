-- The octets of a signature: the DER of SEQUENCE { r INTEGER, s INTEGER } (Ecdsa-Sig-Value: RFC 3279,
-- 2.2.3). Section numbers are those of X.690.
use Rattle.std.specs.Prelude.{ℕ, Bool, false, ◌&&◌, not, if◌then◌else◌, ◌==◌, nat_lt, nat_le, List, [], ◌∷◌, length, take, drop, Option, Some, None}
use Rattle.std.specs.Int.Digits.{number_from_digits}

-- the number whose octets these are, the highest first
abbrev pub number_of_octets : List ℕ → ℕ
number_of_octets octets = number_from_digits 256 octets

-- the length of one octet, at least 128, and the octets after it
abbrev pub long_length : List ℕ → Option (ℕ × List ℕ)
long_length [] = None
long_length (octet ∷ rest) = if nat_le 128 octet then Some (octet, rest) else None

-- the length at the beginning, and the octets after it (8.1.3, in the shortest form: 10.1). A length
-- past 255 is not read: none of the three curves has so long a signature.
abbrev pub read_length : List ℕ → Option (ℕ × List ℕ)
read_length [] = None
read_length (octet ∷ rest) = if nat_lt octet 128 then Some (octet, rest) else (if octet == 0x81 then long_length rest else None)

-- the contents octets of that length, and the octets after them
abbrev pub contents_and_rest : Option (ℕ × List ℕ) → Option (List ℕ × List ℕ)
contents_and_rest None = None
contents_and_rest (Some (count, octets)) = if nat_le count (length octets) then Some (take count octets, drop count octets) else None

-- the contents octets of the element at the beginning, where that has this identifier octet (8.1),
-- and the octets after it
unfoldable pub read_element : ℕ → List ℕ → Option (List ℕ × List ℕ)
read_element identifier [] = None
read_element identifier (octet ∷ rest) = if octet == identifier then contents_and_rest (read_length rest) else None

-- the number of an INTEGER's contents octets (8.3), where it isn't negative: at least one octet, the first
-- bit is 0, and the first nine are not all 0
abbrev pub is_natural : List ℕ → Bool
is_natural [] = false
is_natural (first ∷ []) = nat_lt first 128
is_natural (first ∷ second ∷ rest) = nat_lt first 128 && not (first == 0 && nat_lt second 128)

-- the number of the INTEGER at the beginning, where it isn't negative, and the octets after it
abbrev pub natural_and_rest : Option (List ℕ × List ℕ) → Option (ℕ × List ℕ)
natural_and_rest None = None
natural_and_rest (Some (contents, rest)) = if is_natural contents then Some (number_of_octets contents, rest) else None

unfoldable pub read_natural : List ℕ → Option (ℕ × List ℕ)
read_natural octets = natural_and_rest (read_element 0x02 octets)

-- the number of an INTEGER that isn't negative, with nothing after it
abbrev pub last : Option (ℕ × List ℕ) → Option ℕ
last None = None
last (Some (x, [])) = Some x
last (Some (x, octet ∷ rest)) = None

unfoldable pub read_last_natural : List ℕ → Option ℕ
read_last_natural octets = last (read_natural octets)

-- r and s, with nothing after them
abbrev pub with_s : ℕ → Option ℕ → Option (ℕ × ℕ)
with_s r None = None
with_s r (Some s) = Some (r, s)

abbrev pub r_and_s : Option (ℕ × List ℕ) → Option (ℕ × ℕ)
r_and_s None = None
r_and_s (Some (r, rest)) = with_s r (read_last_natural rest)

-- those of the SEQUENCE, with nothing after it
abbrev pub in_sequence : Option (List ℕ × List ℕ) → Option (ℕ × ℕ)
in_sequence None = None
in_sequence (Some (contents, [])) = r_and_s (read_natural contents)
in_sequence (Some (contents, octet ∷ rest)) = None

-- r and s of a signature
unfoldable pub ecdsa_sig_value : List ℕ → Option (ℕ × ℕ)
ecdsa_sig_value octets = in_sequence (read_element 0x30 octets)
