-- Texts that have to be ASCII.
use Rattle.std.specs.Prelude.{ℕ, Bool, not, List, Option, find}
use Rattle.std.specs.List.{list_all}
use Rattle.rcgen_text.specs.Strings.{is_ia5}

abbrev pub is_ascii : List ℕ → Bool
is_ascii text = list_all is_ia5 text

abbrev pub first_not_ascii : List (List ℕ) → Option (List ℕ)
first_not_ascii texts = find (λ text. not (is_ascii text)) texts
