-- An explanation as JSON (RFC 8259): an array with an object for each block. An object has the label and the lines; a line has its name,
-- its value as an array with a text for each of its lines, and `below`, where lines belong to it, these.
--
-- In an explanation, a block begins with its label, and an empty line comes before each other block. A line is indented by two columns, or
-- four, or six; then come its name and a colon, and in column 34 the value. What is in that column in the next line belongs to the value.
use Rattle.std.specs.Prelude.{ℕ, ◌+◌, ◌-◌, cond, List, [], ◌∷◌, ◌++◌, ◌==◌, ◌||◌, codes, nat_le, nat_lt}
use Rattle.hex.specs.Hex.{encode_lower}
use Rattle.explain_json.specs.declared.Place.{Place}
use Rattle.explain_json.specs.declared.Place.TheVariants as part
use Rattle.explain_json.specs.declared.State.{State}

-- ---- strings

-- an octet of a text (RFC 8259, 7)
unfoldable pub escaped : ℕ → List ℕ
escaped octet =
    cond ((octet == 34) || (octet == 92)) (92 ∷ octet ∷ []) (cond (nat_lt octet 32) (codes "\\u00" ++ encode_lower (octet ∷ [])) (octet ∷ []))

-- ---- lines within lines

-- the ends of so many lines
unfoldable pub closing : ℕ → List ℕ
closing count = cond (count == 0) [] (cond (count == 1) (codes "]}") (cond (count == 2) (codes "]}]}") (codes "]}]}]}")))

-- how many lines a line is below, by its indent
unfoldable pub level_at : ℕ → ℕ
level_at column = cond (nat_lt column 4) 0 (cond (nat_lt column 6) 1 2)

-- before a line below so many, where so many are open
unfoldable pub opening : ℕ → ℕ → List ℕ
opening depth level =
    cond (depth == 0) [] (cond (nat_le depth level) (codes "],\"below\":[") (closing (depth - level) ++ codes ","))

-- how many are open with a line of this indent, where so many were
unfoldable pub opened : ℕ → ℕ → ℕ
opened depth column = cond ((depth == 0) || nat_lt column 4) 1 (cond ((depth == 1) || nat_lt column 6) 2 3)

-- ---- octets

abbrev pub state_of : Place → ℕ → ℕ → State
state_of p column depth = record { place = p; column = column; depth = depth }

-- the next column, of which the 34th is the last
unfoldable pub next_column : ℕ → ℕ
next_column column = cond (nat_lt column 33) (column + 1) 33

unfoldable pub title_piece : ℕ → List ℕ
title_piece octet = cond (octet == 10) (codes "\",\"lines\":[") (escaped octet)

unfoldable pub after_title : State → ℕ → State
after_title s octet = cond (octet == 10) (state_of part.Start 0 0) s

-- another block, or another line
unfoldable pub new_piece : State → ℕ → List ℕ
new_piece s octet =
    cond (octet == 10) (closing s.depth ++ codes "]},{\"label\":\"")
    (opening s.depth (level_at s.column) ++ codes "{\"name\":\"" ++ escaped octet)

unfoldable pub start_piece : State → ℕ → List ℕ
start_piece s octet = cond (octet == 32) (cond (nat_lt s.column 33) [] (codes ",\"")) (new_piece s octet)

unfoldable pub after_new : State → ℕ → State
after_new s octet =
    cond (octet == 10) (state_of part.Title 0 0) (state_of part.Name (next_column s.column) (opened s.depth s.column))

unfoldable pub after_start : State → ℕ → State
after_start s octet =
    cond (octet == 32) (cond (nat_lt s.column 33) (state_of part.Start (next_column s.column) s.depth) (state_of part.Value 0 s.depth)) (after_new s octet)

unfoldable pub name_piece : ℕ → List ℕ
name_piece octet = cond ((octet == 58) || (octet == 10)) (codes "\",\"value\":[") (escaped octet)

unfoldable pub after_name : State → ℕ → State
after_name s octet =
    cond (octet == 58) (state_of part.Gap (next_column s.column) s.depth)
    (cond (octet == 10) (state_of part.Start 0 s.depth) (state_of part.Name (next_column s.column) s.depth))

unfoldable pub gap_piece : State → ℕ → List ℕ
gap_piece s octet = cond (octet == 10) [] (cond (nat_lt s.column 33) [] (codes "\""))

unfoldable pub after_gap : State → ℕ → State
after_gap s octet =
    cond (octet == 10) (state_of part.Start 0 s.depth)
    (cond (nat_lt s.column 33) (state_of part.Gap (next_column s.column) s.depth) (state_of part.Value 0 s.depth))

unfoldable pub value_piece : ℕ → List ℕ
value_piece octet = cond (octet == 10) (codes "\"") (escaped octet)

unfoldable pub after_value : State → ℕ → State
after_value s octet = cond (octet == 10) (state_of part.Start 0 s.depth) s

unfoldable pub piece_at : Place → State → ℕ → List ℕ
piece_at part.Title s octet = title_piece octet
piece_at part.Start s octet = start_piece s octet
piece_at part.Name s octet = name_piece octet
piece_at part.Gap s octet = gap_piece s octet
piece_at part.Value s octet = value_piece octet

unfoldable pub after_at : Place → State → ℕ → State
after_at part.Title s octet = after_title s octet
after_at part.Start s octet = after_start s octet
after_at part.Name s octet = after_name s octet
after_at part.Gap s octet = after_gap s octet
after_at part.Value s octet = after_value s octet

-- ---- the text

unfoldable pub ending : State → List ℕ
ending s = closing s.depth ++ codes "]}]"

unfoldable pub json_from : State → List ℕ → List ℕ
json_from s [] = ending s
json_from s (octet ∷ octets) = piece_at s.place s octet ++ json_from (after_at s.place s octet) octets

abbrev pub at_title : State
at_title = state_of part.Title 0 0

unfoldable pub json_of : List ℕ → List ℕ
json_of text = codes "[{\"label\":\"" ++ json_from at_title text ++ codes "\n"
