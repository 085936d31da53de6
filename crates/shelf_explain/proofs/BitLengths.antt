-- How many bits a number of octets has.
use Rattle.std.proofs.Common.{◌≡◌, ℕ, suc, zero, ◌+◌, ◌*◌, ◌/◌, ◌^◌, ◌-◌, ◌<◌, ◌≤◌, nat_lt, List, [], ◌∷◌, length, get_or, refl, ap, sym, ◌∙◌, arith}
use Rattle.std.specs.Int.Digits.{number_from_digits_after, digits_of, AllBelowBase}
use Rattle.std.proofs.lemmas.Bool.{lt-ltb}
use Rattle.std.proofs.lemmas.Int.Digits.{length-digits_of_step}
use Rattle.std.proofs.lemmas.Nat.{pow-add}
use Rattle.asn1_core.specs.Twos.{number}
use Rattle.shelf_explain.specs.RsaKeys.{bit_length}
use Rattle.shelf_explain.proofs.Tenths.{all_below}

-- between one power of two and the next
digits_between : (k n : ℕ) → 2 ^ k ≤ n → n < 2 ^ suc k → length (digits_of 2 n) ≡ suc k
digits_between zero n low high =
    let one : n ≡ 1 = omega arith in
    ap (λ (m : ℕ). length (digits_of 2 m)) one
digits_between (suc k) n low high =
    let half = digits_between k (n / 2) (omega arith) (omega arith) in
    let step = length-digits_of_step 2 n (omega arith) (omega arith) in
    omega (arith, half, step)

pub bits_are : (n m : ℕ) → 2 ^ (m + 1 - 1) ≤ n → n < 2 ^ (m + 1) → m + 1 ≡ bit_length n
unfolding bit_length
bits_are n m low high =
    let same : m + 1 - 1 ≡ m = omega arith in
    let next : m + 1 ≡ suc m = omega arith in
    let l : 2 ^ (m + 1 - 1) ≡ 2 ^ m = ap (λ (k : ℕ). 2 ^ k) same in
    let h : 2 ^ (m + 1) ≡ 2 ^ suc m = ap (λ (k : ℕ). 2 ^ k) next in
    let is = digits_between m n (omega (arith, l, low)) (omega (arith, h, high)) in
    omega (arith, is, next)

-- ---- an octet more

eight_more : (k : ℕ) → 2 ^ (suc k * 8) ≡ 256 * 2 ^ (k * 8)
eight_more k =
    let sum : suc k * 8 ≡ k * 8 + 8 = omega arith in
    let split = pow-add 2 (k * 8) 8 in
    ap (λ (m : ℕ). 2 ^ m) sum ∙ omega (arith, split)

scaled_low : (a n : ℕ) (ds : List ℕ) → a ≤ n → a * 2 ^ (length ds * 8) ≤ number_from_digits_after 256 n ds
scaled_low a n [] h = omega (arith, h)
scaled_low a n (d ∷ ds) h =
    let more = scaled_low (a * 256) (n * 256 + d) ds (omega arith) in
    let eight : a * 2 ^ (length (d ∷ ds) * 8) ≡ a * (256 * 2 ^ (length ds * 8)) = ap (λ (m : ℕ). a * m) (eight_more (length ds)) in
    omega (arith, more, eight)

scaled_high : (b n : ℕ) (ds : List ℕ) → n < b → AllBelowBase 256 ds → number_from_digits_after 256 n ds < b * 2 ^ (length ds * 8)
scaled_high b n [] h l = omega (arith, h)
scaled_high b n (d ∷ ds) h l =
    let below : d < 256 = l.0 in
    let more = scaled_high (b * 256) (n * 256 + d) ds (omega arith) l.1 in
    let eight : b * 2 ^ (length (d ∷ ds) * 8) ≡ b * (256 * 2 ^ (length ds * 8)) = ap (λ (m : ℕ). b * m) (eight_more (length ds)) in
    omega (arith, more, eight)

-- ---- of the first octet so many bits

pub at_least : (first log : ℕ) (rest : List ℕ) → 2 ^ log ≤ first → 2 ^ (length rest * 8 + log + 1 - 1) ≤ number (first ∷ rest)
at_least first log rest low =
    let scaled = scaled_low (2 ^ log) (0 + first) rest (omega arith) in
    let sum : length rest * 8 + log + 1 - 1 ≡ log + length rest * 8 = omega arith in
    let split = pow-add 2 log (length rest * 8) in
    let power : 2 ^ (length rest * 8 + log + 1 - 1) ≡ 2 ^ (log + length rest * 8) = ap (λ (m : ℕ). 2 ^ m) sum in
    omega (arith, scaled, split, power)

pub below : (first log : ℕ) (rest : List ℕ) → first < 2 * 2 ^ log → ((k : ℕ) → get_or rest k 0 < 256)
    → number (first ∷ rest) < 2 ^ (length rest * 8 + log + 1)
below first log rest high fit =
    let scaled = scaled_high (2 * 2 ^ log) (0 + first) rest (omega arith) (all_below rest fit) in
    let sum : length rest * 8 + log + 1 ≡ 1 + (log + length rest * 8) = omega arith in
    let split = pow-add 2 log (length rest * 8) in
    let twice = pow-add 2 1 (log + length rest * 8) in
    let power : 2 ^ (length rest * 8 + log + 1) ≡ 2 ^ (1 + (log + length rest * 8)) = ap (λ (m : ℕ). 2 ^ m) sum in
    omega (arith, scaled, split, twice, power)

-- ---- zeros alone

pub none_left : (rest octets : List ℕ) → length rest < 1 → number rest ≡ number octets → 0 ≡ bit_length (number octets)
unfolding bit_length
none_left [] octets h e = ap (λ (n : ℕ). length (digits_of 2 n)) e
none_left (d ∷ rest) octets h e = absurd (omega arith)

pub has_bits : (n : ℕ) → nat_lt 0 n ≡ nat_lt 0 (bit_length n)
unfolding bit_length
has_bits zero = refl
has_bits (suc n) =
    let step = length-digits_of_step 2 (suc n) (omega arith) (omega arith) in
    lt-ltb 0 (suc n) (omega arith) ∙ sym (lt-ltb 0 (length (digits_of 2 (suc n))) (omega (arith, step)))
