-- Where the kind that a text begins with ends: at its first `=` or `:`.
use Rattle.std.specs.Prelude.{ℕ, ◌==◌, ◌||◌, if◌then◌else◌, List, [], ◌∷◌, ◌++◌, Option, Some, None}

-- the text before the separator, the separator, and the text after it; front comes before the rest
abbrev pub at_separator_from : List ℕ → List ℕ → Option (List ℕ × ℕ × List ℕ)
at_separator_from front [] = None
at_separator_from front (b ∷ rest) = if b == 61 || b == 58 then Some (front, b, rest) else at_separator_from (front ++ b ∷ []) rest

unfoldable pub at_separator : List ℕ → Option (List ℕ × ℕ × List ℕ)
at_separator text = at_separator_from [] text
