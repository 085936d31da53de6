-- Numbers after a word, in decimal digits without a leading zero.
use Rattle.std.specs.Prelude.{◌≡◌, ◌<◌, ◌≤◌, ℕ, ◌+◌, ◌-◌, ◌*◌, ◌==◌, ◌&&◌, nat_lt, if◌then◌else◌, List, [], ◌∷◌, decimal, Option, Some, None}
use Rattle.std.specs.Char.{is_ascii_digit}

-- the most entries of a list that is made for measures
abbrev pub most_entries : ℕ
most_entries = 100_000

-- the text is that of the number, in decimal digits without a leading zero
pub record IsCount (text : List ℕ) (n : ℕ) : Type 0 where
  pub digits : text ≡ decimal n
  pub some : 0 < n
  pub most : n ≤ most_entries

-- the number that the digits after this one make of it, where that isn't too large
unfoldable pub with_digits : ℕ → List ℕ → Option ℕ
with_digits n [] = Some n
with_digits n (b ∷ rest) =
    if is_ascii_digit b && nat_lt (10 * n + (b - 48)) (most_entries + 1) then with_digits (10 * n + (b - 48)) rest else None

-- the number that a text is, from 1 on
unfoldable pub count_of : List ℕ → Option ℕ
count_of [] = None
count_of (b ∷ rest) = if b == 48 then None else with_digits 0 (b ∷ rest)
