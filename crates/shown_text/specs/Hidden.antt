-- Characters that are shown as they are, and the others. The tables are HIDDEN and RIGHT_TO_LEFT of src/table.rt.
use Rattle.std.specs.Prelude.{ℕ, Bool, cond, not, List, ◌&&◌, codes, nat_le, encode_utf8}
use Rattle.std.specs.List.{list_any}
use Rattle.shown_text.specs.declared.table.TheConstants.{HIDDEN, RIGHT_TO_LEFT}

-- from the first code of a range to the last
abbrev pub is_in : List (ℕ × ℕ) → ℕ → Bool
is_in ranges code = list_any (λ (range : ℕ × ℕ). nat_le range.0 code && nat_le code range.1) ranges

-- it shows nothing, acts on a terminal, or changes how others show
unfoldable pub is_hidden : ℕ → Bool
is_hidden code = is_in HIDDEN.now code

-- it is of a script that runs from right to left, and so reorders what is next to it (Unicode Standard Annex 9)
unfoldable pub is_right_to_left : ℕ → Bool
is_right_to_left code = is_in RIGHT_TO_LEFT.now code

unfoldable pub is_shown : ℕ → Bool
is_shown code = not (is_hidden code) && not (is_right_to_left code)

-- the character in UTF-8 where it is shown as it is, and a question mark in place of another
unfoldable pub masked : ℕ → List ℕ
masked code = cond (is_shown code) (encode_utf8 code) (codes "?")
