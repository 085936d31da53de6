-- Digits in base 128, written one after another.
use Rattle.std.proofs.Common.{◌≡◌, ℕ, ◌+◌, ◌*◌, ◌/◌, ◌%◌, ◌^◌, ◌<◌, ◌≤◌, zero, suc, length, List, [], ◌∷◌, ◌++◌, sym, ap, ◌∙◌, append_assoc, arith}
use Rattle.std.proofs.lemmas.List.{append-nil, length-append}
use Rattle.asn1_core.specs.Base128.{digits, digits_zero, digits_suc, digits_more}

fall : (n p : ℕ) → n < p * 128 → n / 128 < p
fall n p l = omega arith

digits_nine : (n : ℕ) → 0 < n → n < 2 ^ 63 → digits 128 128 9 n ≡ digits 128 128 9 (n / 128) ++ (128 + n % 128) ∷ []
digits_nine n p l =
    digits_suc 128 128 8 n p ∙ ap (λ (x : List ℕ). x ++ (128 + n % 128) ∷ []) (sym (digits_more 128 128 fall 8 (n / 128) (omega arith)))

pub digits_behind : (front : List ℕ) (n : ℕ) → 0 < n → n < 2 ^ 63 → (front ++ digits 128 128 9 (n / 128)) ++ (128 + n % 128) ∷ [] ≡ front ++ digits 128 128 9 n
digits_behind front n p l = append_assoc front (digits 128 128 9 (n / 128)) ((128 + n % 128) ∷ []) ∙ ap (λ (x : List ℕ). front ++ x) (sym (digits_nine n p l))

pub digits_end : (front : List ℕ) (n : ℕ) → n ≡ 0 → front ++ digits 128 128 9 n ≡ front
digits_end front n e = ap (λ (x : ℕ). front ++ digits 128 128 9 x) e ∙ ap (λ (x : List ℕ). front ++ x) (digits_zero 128 128 9) ∙ append-nil front

pub digits_length : (n : ℕ) → 0 < n → n < 2 ^ 63 → length (digits 128 128 9 n) ≡ length (digits 128 128 9 (n / 128)) + 1
digits_length n p l = ap length (digits_nine n p l) ∙ length-append (digits 128 128 9 (n / 128)) ((128 + n % 128) ∷ [])

digits_within : (k n : ℕ) → length (digits 128 128 k n) ≤ k
unfolding digits
digits_within zero n = omega arith
digits_within (suc k) zero = omega arith
digits_within (suc k) (suc n) =
    omega (arith, ap length (digits_suc 128 128 k (suc n) (omega arith)), length-append (digits 128 128 k (suc n / 128)) ((128 + suc n % 128) ∷ []), digits_within k (suc n / 128))

pub nine_digits : (n : ℕ) → length (digits 128 128 9 n) ≤ 9
nine_digits n = digits_within 9 n

pub ruleset writing = (digits_behind, digits_end, digits_length, length-append)

pub ruleset room = (nine_digits, length-append)

pub no_digits : (n : ℕ) → n ≡ 0 → length (digits 128 128 9 n) ≡ 0
no_digits n e = ap (λ (x : ℕ). length (digits 128 128 9 x)) e ∙ ap length (digits_zero 128 128 9)

pub ruleset putting = (digits_behind, digits_end, digits_length, no_digits, length-append)

pub ruleset counting = (no_digits, digits_length, nine_digits, length-append)
