-- The values of attributes, as RFC 4514 writes them, and other texts.
use Rattle.std.specs.Prelude.{ℕ, Bool, true, false, cond, List, [], ◌∷◌, ◌++◌, ◌&&◌, ◌||◌, ◌==◌, codes, flat_map, encode_utf8}
use Rattle.shelf_explain.specs.Characters.{is_special, plain, shown, unicode}

unfoldable pub plain_text : List ℕ → List ℕ
plain_text characters = flat_map plain characters

-- whether a backslash comes before the character: the special ones, a space or a number sign at the start, a space at the end (RFC 4514, 2.4)
unfoldable pub is_marked : Bool → Bool → ℕ → Bool
is_marked is_first is_last code = is_special code || ((code == 32) && (is_first || is_last)) || ((code == 35) && is_first)

unfoldable pub marked : Bool → Bool → ℕ → List ℕ
marked is_first is_last code = cond (is_marked is_first is_last code) (codes "\\" ++ encode_utf8 (unicode code)) (shown code)

-- a character, and those after it
unfoldable pub value_from : Bool → ℕ → List ℕ → List ℕ
value_from is_first code [] = marked is_first true code
value_from is_first code (next ∷ rest) = marked is_first false code ++ value_from false next rest

-- the text of an attribute's value (RFC 4514, 2.4)
unfoldable pub value_text : List ℕ → List ℕ
value_text [] = []
value_text (first ∷ rest) = value_from true first rest
