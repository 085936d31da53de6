-- Numbers below 100 in two decimal digits, written and read.
use Rattle.std.specs.Prelude.{◌≡◌, ℕ, ◌+◌, ◌-◌, ◌*◌, ◌/◌, ◌%◌, ◌<◌, ◌≤◌, Bool, true, ◌&&◌, if◌then◌else◌, nat_le, nat_lt, List, [], ◌∷◌, ◌++◌, Option, Some, None, refl}
use Rattle.std.proofs.Common.{ap, ◌∙◌, arith}
use Rattle.std.proofs.lemmas.Bool.{le-leb, lt-ltb, leb-true, ltb-true}
use Rattle.asn1_core.specs.Binds.{chosen, and_true, true_and}

abbrev pub two_digits : ℕ → List ℕ
two_digits n = (48 + n / 10) ∷ (48 + n % 10) ∷ []

abbrev pub is_digit : ℕ → Bool
is_digit d = nat_le 48 d && nat_lt d 58

-- the number that the first two bytes spell, and the bytes after them
unfoldable pub two_at : List ℕ → Option (ℕ × List ℕ)
two_at [] = None
two_at (a ∷ []) = None
two_at (a ∷ b ∷ rest) = if is_digit a && is_digit b then Some ((a - 48) * 10 + (b - 48), rest) else None

pub digit_is : (d : ℕ) → d < 10 → is_digit (48 + d) ≡ true
digit_is d l = true_and _ _ (le-leb 48 (48 + d) (omega arith)) (lt-ltb (48 + d) 58 (omega arith))

pub is_digit-true : (d : ℕ) → is_digit d ≡ true → (48 ≤ d) × (d < 58)
is_digit-true d e = let k = and_true (nat_le 48 d) (nat_lt d 58) e in (leb-true 48 d k.0, ltb-true d 58 k.1)

two_is : (a b n : ℕ) (rest : List ℕ) → is_digit a ≡ true → is_digit b ≡ true → (a - 48) * 10 + (b - 48) ≡ n → two_at (a ∷ b ∷ rest) ≡ Some (n, rest)
unfolding two_at
two_is a b n rest p q e = rw (p, q, e) refl

pub two_again : (n : ℕ) (rest : List ℕ) → n < 100 → two_at (two_digits n ++ rest) ≡ Some (n, rest)
two_again n rest l =
    two_is (48 + n / 10) (48 + n % 10) n rest (digit_is (n / 10) (omega arith)) (digit_is (n % 10) (omega arith)) (omega arith)

pub record Read2 (b : List ℕ) (n : ℕ) (rest : List ℕ) : Type 0 where
  pub parts : b ≡ two_digits n ++ rest
  pub below : n < 100

two_read : (a b n : ℕ) (after rest : List ℕ) → is_digit a ≡ true → is_digit b ≡ true → ◌≡◌ {A = ℕ × List ℕ} ((a - 48) * 10 + (b - 48), after) (n, rest) → Read2 (a ∷ b ∷ after) n rest
two_read a b n after rest p q e =
    let x = is_digit-true a p in
    let y = is_digit-true b q in
    let n-is : (a - 48) * 10 + (b - 48) ≡ n = ap (λ (p : ℕ × List ℕ). p.0) e in
    let high : a ≡ 48 + n / 10 = omega arith in
    let low : b ≡ 48 + n % 10 = omega arith in
    record {
      parts = ap (λ (x : ℕ). x ∷ b ∷ after) high ∙ ap (λ (x : ℕ). (48 + n / 10) ∷ x ∷ after) low ∙ ap (λ (p : ℕ × List ℕ). (48 + n / 10) ∷ (48 + n % 10) ∷ p.1) e;
      below = omega arith;
    }

pub two_takes : (b : List ℕ) (n : ℕ) (rest : List ℕ) → two_at b ≡ Some (n, rest) → Read2 b n rest
unfolding two_at
two_takes [] n rest e = absurd cc
two_takes (a ∷ []) n rest e = absurd cc
two_takes (a ∷ b ∷ after) n rest e =
    let k = chosen (is_digit a && is_digit b) ((a - 48) * 10 + (b - 48), after) (n, rest) e in
    let d = and_true (is_digit a) (is_digit b) k.0 in
    two_read a b n after rest d.0 d.1 k.1
