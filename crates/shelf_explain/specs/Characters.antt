-- Characters of a text as they are shown: none acts on a terminal, is invisible, or changes the direction of the text beside it.
use Rattle.std.specs.Prelude.{ℕ, Bool, cond, List, [], ◌∷◌, ◌++◌, ◌||◌, ◌==◌, codes, flat_map, encode_utf8}
use Rattle.asn1_core.specs.StringTypes.{scalar}
use Rattle.shelf_explain.specs.Lines.{hex_text}
use Rattle.shown_text.specs.Hidden.{is_shown}

-- the code of a character of Unicode; U+FFFD for another
unfoldable pub unicode : ℕ → ℕ
unicode code = cond (scalar code) code 0xfffd

-- a backslash and two hexadecimal digits
unfoldable pub hex_pair : ℕ → List ℕ
hex_pair octet = codes "\\" ++ hex_text (octet ∷ [])

unfoldable pub hex_pairs : List ℕ → List ℕ
hex_pairs octets = flat_map hex_pair octets

-- a character in UTF-8; of a hidden one, or one of a script that runs from right to left, the octets in hexadecimal digits
unfoldable pub shown : ℕ → List ℕ
shown code = cond (is_shown (unicode code)) (encode_utf8 (unicode code)) (hex_pairs (encode_utf8 (unicode code)))

-- the same, with each backslash twice
unfoldable pub plain : ℕ → List ℕ
plain code = cond (code == 92) (codes "\\\\") (shown code)

-- " + , ; < > and the backslash (RFC 4514, 2.4)
unfoldable pub is_special : ℕ → Bool
is_special code = (code == 34) || (code == 43) || (code == 44) || (code == 59) || (code == 60) || (code == 62) || (code == 92)
