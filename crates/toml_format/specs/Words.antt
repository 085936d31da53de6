-- Texts that are words of a table.
use Rattle.std.specs.Prelude.{ℕ, if◌then◌else◌, List, [], ◌∷◌, Option, Some, None}
use Rattle.std.specs.Str.{bytes_eq}

-- the value beside the word
abbrev pub word_of : {A : Type 0} → List (List ℕ × A) → List ℕ → Option A
word_of [] text = None
word_of (row ∷ rows) text = if bytes_eq text row.0 then Some row.1 else word_of rows text

-- the same, with another result for a text that isn't one of the words
abbrev pub word_or : {A : Type 0} → List (List ℕ × A) → Option A → List ℕ → Option A
word_or [] other text = other
word_or (row ∷ rows) other text = if bytes_eq text row.0 then Some row.1 else word_or rows other text
