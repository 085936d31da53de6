-- Serial numbers as text.
use Rattle.std.specs.Prelude.{ℕ, ◌/◌, ◌%◌, List, [], ◌∷◌, codes}
use Rattle.std.specs.List.{join_by}
use Rattle.std.specs.Char.{digit_char}

-- a byte in two lower-case hex digits
abbrev pub two_digits : ℕ → List ℕ
two_digits b = digit_char (b / 16) ∷ digit_char (b % 16) ∷ []

-- the bytes, joined by colons
abbrev pub serial_text : List ℕ → List ℕ
serial_text bytes = join_by two_digits (codes ":") bytes
