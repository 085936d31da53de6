-- Arcs as text (RFC 4512, 1.4: numericoid): decimals below 2^32 without leading zeros, joined by periods.
use Rattle.std.specs.Prelude.{ℕ, ◌+◌, ◌-◌, ◌*◌, ◌^◌, ◌==◌, ◌&&◌, nat_lt, if◌then◌else◌, List, [], ◌∷◌, Option, Some, None}
use Rattle.std.specs.Char.{is_ascii_digit}
use Rattle.std.specs.Option.{option_map}
use Rattle.asn1_core.specs.Binds.{◌>>=◌}

-- the number with a digit appended: the first digit, or one after a number that isn't zero
unfoldable pub with_digit : Option ℕ → ℕ → Option ℕ
with_digit None digit = Some digit
with_digit (Some n) digit = if nat_lt 0 n && nat_lt (10 * n + digit) (2 ^ 32) then Some (10 * n + digit) else None

-- the arcs from here, where the number so far is the front of the first of them
abbrev pub arcs_from : Option ℕ → List ℕ → Option (List ℕ)
arcs_from number [] = option_map (λ n. n ∷ []) number
arcs_from number (b ∷ rest) =
    if b == 46 then number >>= (λ n. option_map (λ arcs. n ∷ arcs) (arcs_from None rest))
    else if is_ascii_digit b then with_digit number (b - 48) >>= (λ n. arcs_from (Some n) rest)
    else None

unfoldable pub arcs : List ℕ → Option (List ℕ)
arcs text = arcs_from None text
