-- Lines of a text for people: a key, and a value in the column of values.
use Rattle.std.specs.Prelude.{ℕ, List, ◌++◌, codes, decimal, drop, flat_map, length}
use Rattle.std.specs.List.{join_by}
use Rattle.hex.specs.Hex.{encode_lower}

unfoldable pub hex_text : List ℕ → List ℕ
hex_text octets = encode_lower octets

unfoldable pub dotted : List ℕ → List ℕ
dotted arcs = join_by decimal (codes ".") arcs

-- spaces up to the column of values, after an indented key
unfoldable pub up_to_column : List ℕ → List ℕ → List ℕ
up_to_column indent key = drop (length key) (drop (length indent) (codes "                                "))

unfoldable pub key_part : List ℕ → List ℕ → List ℕ
key_part indent key = indent ++ key ++ codes ":" ++ up_to_column indent key ++ codes " "

unfoldable pub line : List ℕ → List ℕ → List ℕ → List ℕ
line indent key text = key_part indent key ++ text ++ codes "\n"

-- to the column of values on the next line
unfoldable pub next_line : List ℕ
next_line = codes "\n                                  "

-- to what belongs to a value, on the next line
unfoldable pub below_line : List ℕ
below_line = codes "\n                                    "

-- each on a line of its own, indented below the value
unfoldable pub each_below : {A : Type 0} → (A → List ℕ) → List A → List ℕ
each_below text xs = flat_map (λ x. below_line ++ text x) xs

-- what a text is, and the text
unfoldable pub labelled : List ℕ → List ℕ → List ℕ
labelled label text = label ++ text
