-- Primes, and certificates of them (V. R. Pratt, Every prime has a succinct certificate, 1975).
use Rattle.std.specs.Prelude.{◌≡◌, ℕ, zero, suc, ◌-◌, ◌*◌, ◌/◌, ◌%◌, ◌^◌, ◌<◌, Bool, true, false, cond, not, ◌&&◌, ◌||◌, ◌==◌, nat_lt, ◌⊎◌, List, [], ◌∷◌}

-- a number above 1 with no divisors but 1 and itself
pub record IsPrime (n : ℕ) : Type 0 where
  pub above_one : 1 < n
  pub only : (d e : ℕ) → d * e ≡ n → (d ≡ 1) ⊎ (d ≡ n)

-- x^e modulo n, for an exponent of at most so many binary digits: the power r with half the exponent,
-- rounded down, as r * r, and x once more for an odd exponent
unfoldable pub next_modulo : ℕ → ℕ → ℕ → Bool → ℕ
next_modulo n r x odd = cond odd ((r * r % n) * x % n) (r * r % n)

unfoldable pub power_modulo : ℕ → ℕ → ℕ → ℕ → ℕ
power_modulo n zero x e = 1
power_modulo n (suc digits) x e = next_modulo n (power_modulo n digits x (e / 2)) x (e % 2 == 1)

-- a row of a certificate: a number n below 2 to the number of its digits, a generator g, and the primes
-- that n - 1 is the product of, each with its exponent
pub record Row : Type 0 where
  pub number : ℕ
  pub digits : ℕ
  pub generator : ℕ
  pub factors : List (ℕ × ℕ)

unfoldable pub product : List (ℕ × ℕ) → ℕ
product [] = 1
product ((prime, exponent) ∷ factors) = prime ^ exponent * product factors

unfoldable pub is_known : ℕ → List ℕ → Bool
is_known n [] = false
is_known n (known ∷ others) = n == known || is_known n others

-- each prime is known, and g to the power of (n - 1) / prime isn't 1 modulo n
unfoldable pub are_factors : List ℕ → Row → List (ℕ × ℕ) → Bool
are_factors known row [] = true
are_factors known row ((prime, exponent) ∷ factors) =
    is_known prime known && not (power_modulo row.number row.digits row.generator ((row.number - 1) / prime) == 1) && are_factors known row factors

-- and g to the power of n - 1 is 1
unfoldable pub is_row : List ℕ → Row → Bool
is_row known row =
    nat_lt 2 row.number && nat_lt row.number (2 ^ row.digits) && product row.factors == row.number - 1
    && power_modulo row.number row.digits row.generator (row.number - 1) == 1 && are_factors known row row.factors

-- each row follows from what is known, and from the rows before it
unfoldable pub certifies_from : List ℕ → List Row → ℕ → Bool
certifies_from known [] n = is_known n known
certifies_from known (row ∷ rows) n = is_row known row && certifies_from (row.number ∷ known) rows n

-- 2 is known
abbrev pub certifies : List Row → ℕ → Bool
certifies rows n = certifies_from (2 ∷ []) rows n
