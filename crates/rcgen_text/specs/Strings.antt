-- The texts of names and alternative names (X.680, 41; X.690, 8.23).
use Rattle.std.specs.Prelude.{◌≡◌, ℕ, ◌/◌, ◌%◌, ◌^◌, Bool, ◌&&◌, not, ◌==◌, nat_lt, List, [], ◌∷◌, length, codes, chars, Result, flat_map}
use Rattle.std.specs.List.{list_all}
use Rattle.std.specs.Char.{is_ascii}
use Rattle.std.specs.Int.{is_in_range}
use Rattle.asn1_core.specs.StringTypes.{scalar, pairs, quads}
use Rattle.rcgen_text.specs.declared.error.Error.{Error}
use Rattle.rcgen_text.specs.Causes.{Cause, bmp_text, universal_text, when, Makes}

-- the characters of ASCII
abbrev pub is_ia5 : ℕ → Bool
is_ia5 c = is_ascii c

-- U+0020 to U+007F
abbrev pub is_teletex : ℕ → Bool
is_teletex c = is_in_range 32 127 c

-- the text, where all its characters are in the set, and else the cause with the text
abbrev pub MakesAscii : Type 0 → (ℕ → Bool) → (List ℕ → Cause) → List ℕ → Result (List ℕ) Error → Type 0
MakesAscii takes is_character cause_of text result =
    Makes takes (when (not (list_all is_character text)) (cause_of text)) (λ made. made ≡ text) result

-- ---- BMPString: two octets a character, the first the higher

-- a character of Unicode up to U+FFFE
abbrev pub is_bmp_code : ℕ → Bool
is_bmp_code code = scalar code && nat_lt code 65535

abbrev pub is_bmp : List ℕ → Bool
is_bmp octets = length octets % 2 == 0 && list_all is_bmp_code (pairs octets)

abbrev pub two_octets : ℕ → List ℕ
two_octets code = (code / 2 ^ 8 % 2 ^ 8) ∷ (code % 2 ^ 8) ∷ []

-- no character of the text is above U+FFFE
abbrev pub fits_bmp : List ℕ → Bool
fits_bmp text = list_all (λ code. nat_lt code 65535) (chars text)

-- the text in UTF-16BE, where it fits
abbrev pub utf16be : List ℕ → List ℕ
utf16be text = flat_map two_octets (chars text)

abbrev pub no_utf16 : Cause
no_utf16 = bmp_text (codes "Invalid UTF-16 encoding")

-- ---- UniversalString: four octets a character, the first the highest

abbrev pub is_universal : List ℕ → Bool
is_universal octets = length octets % 4 == 0 && list_all scalar (quads octets)

abbrev pub four_octets : ℕ → List ℕ
four_octets code = (code / 2 ^ 24) ∷ (code / 2 ^ 16 % 2 ^ 8) ∷ (code / 2 ^ 8 % 2 ^ 8) ∷ (code % 2 ^ 8) ∷ []

-- the text in UTF-32BE
abbrev pub utf32be : List ℕ → List ℕ
utf32be text = flat_map four_octets (chars text)

abbrev pub no_utf32 : Cause
no_utf32 = universal_text (codes "Invalid UTF-32 encoding")
