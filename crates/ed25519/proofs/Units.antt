-- p is a prime: what isn't 0 modulo p has an inverse, and d is no square.
use Rattle.std.proofs.Common.{◌≡◌, ◌≢◌, ℕ, suc, ◌+◌, ◌-◌, ◌*◌, ◌/◌, ◌%◌, ◌^◌, ◌<◌, ◌⊎◌, inl, inr, refl, sym, ◌∙◌, ap, arith, mod-eq_of_lt, pow-suc, pow-add}
use Rattle.std.proofs.Math.Nat.{div-add-mod', zero-mod, add-mul-mod_self_right}
use Rattle.std.proofs.lemmas.Bool.{cases_eq}
use Rattle.std.proofs.lemmas.Nat.{mul-mod, mul-mod_second, pow-mod, mul-pow}
use Rattle.ed25519.specs.Field.{p, times, power, next_power, inverse}
use Rattle.ed25519.specs.Curve.{d, root_of_minus_1}
use Rattle.ed25519.proofs.Residues.{below, p_twice}
use Rattle.ed25519.proofs.Congruence.{both_times}
use Rattle.ed25519.proofs.Sums.{IsUnit}
use Rattle.ed25519.proofs.Powers.{power_is}
use Rattle.primes.proofs.Orders.{generated_prime}
use Rattle.ed25519.proofs.Primes.{p_generated}

-- each number that isn't 0 to the power of p - 1 is 1
pub fermat : (a : ℕ) → a % p ≢ 0 → a ^ (p - 1) % p ≡ 1
fermat a h =
    sym (pow-mod a (p - 1) p) ∙ p_generated.to_the_last (a % p) (omega arith) (below a)

one_is_one : 1 % p ≡ 1
one_is_one = let t = p_twice in mod-eq_of_lt (let l : 1 < p = omega arith in l)

pub inverse_is : (a : ℕ) → a % p ≢ 0 → (a * a ^ (p - 2)) % p ≡ 1
inverse_is a h =
    let t = p_twice in
    let s : suc (p - 2) ≡ p - 1 = omega arith in
    let c : a * a ^ (p - 2) ≡ a ^ (p - 2) * a = omega arith in
    ap (λ z. z % p) (c ∙ sym (pow-suc a (p - 2)) ∙ ap (λ z. a ^ z) s) ∙ fermat a h

pub unit_of : (a : ℕ) → a % p ≢ 0 → IsUnit a
unit_of a h = record { inverse = a ^ (p - 2); is_one = inverse_is a h ∙ sym one_is_one }

-- a factor that is a unit is taken away
pub without_unit : (a b w : ℕ) → IsUnit w → (a * w) % p ≡ (b * w) % p → a % p ≡ b % p
without_unit a b w u h =
    let f : a * w * u.inverse ≡ a * (w * u.inverse) = omega arith in
    let g : b * w * u.inverse ≡ b * (w * u.inverse) = omega arith in
    let o : a * 1 ≡ a = omega arith in
    let q : b * 1 ≡ b = omega arith in
    ap (λ z. z % p) (sym o) ∙ sym (both_times a (w * u.inverse) a 1 refl u.is_one) ∙ ap (λ z. z % p) (sym f)
    ∙ both_times (a * w) u.inverse (b * w) u.inverse h refl ∙ ap (λ z. z % p) g ∙ both_times b (w * u.inverse) b 1 refl u.is_one ∙ ap (λ z. z % p) q

-- no divisors of zero
pub zero_factor : (a w : ℕ) → (a * w) % p ≡ 0 → w % p ≢ 0 → a % p ≡ 0
zero_factor a w h n =
    let z : 0 * w ≡ 0 = omega arith in
    without_unit a 0 w (unit_of w n) (h ∙ sym (zero-mod p) ∙ ap (λ y. y % p) (sym z)) ∙ zero-mod p

-- equal terms on both sides are taken away
pub cancel_with : (l r s t : ℕ) → s % p ≡ t % p → l + t ≡ r + s → l % p ≡ r % p
cancel_with l r s t h e =
    let a = div-add-mod' s p in
    let b = div-add-mod' t p in
    let f : l + t / p * p ≡ r + s / p * p = omega (arith, a, b, h, e) in
    sym (add-mul-mod_self_right l (t / p) p) ∙ ap (λ z. z % p) f ∙ add-mul-mod_self_right r (s / p) p

-- ---- d is no square
d_to_the_half : power 254 d ((p - 1) / 2) ≡ p - 1
unfolding d power next_power times p
d_to_the_half = refl

square_to_half : (s : ℕ) → (s * s) ^ ((p - 1) / 2) ≡ s ^ (p - 1)
square_to_half s =
    let t = p_twice in
    let e : (p - 1) / 2 + (p - 1) / 2 ≡ p - 1 = omega arith in
    mul-pow s s ((p - 1) / 2) ∙ sym (pow-add s ((p - 1) / 2) ((p - 1) / 2)) ∙ ap (λ z. s ^ z) e

zero_to : (s : ℕ) → s % p ≡ 0 → s ^ (p - 1) % p ≡ 0
zero_to s h =
    let t = p_twice in
    let k : suc (p - 2) ≡ p - 1 = omega arith in
    let z : s ^ (p - 2) * 0 ≡ 0 = omega arith in
    ap (λ y. s ^ y % p) (sym k) ∙ ap (λ y. y % p) (pow-suc s (p - 2)) ∙ sym (mul-mod_second (s ^ (p - 2)) s p)
    ∙ ap (λ y. (s ^ (p - 2) * y) % p) h ∙ ap (λ y. y % p) z ∙ zero-mod p

half_of_d : (d ^ ((p - 1) / 2)) % p ≡ p - 1
half_of_d = let t = p_twice in sym (power_is 254 d ((p - 1) / 2) (omega arith)) ∙ d_to_the_half

no_square_unit : (s w : ℕ) → (d * (w * w)) % p ≡ (s * s) % p → w % p ≢ 0 → ⊥
no_square_unit s w h n =
    let t = p_twice in
    let k : ℕ = (p - 1) / 2 in
    let a : (d * (w * w)) ^ k % p ≡ s ^ (p - 1) % p =
    sym (pow-mod (d * (w * w)) k p) ∙ ap (λ z. z ^ k % p) h ∙ pow-mod (s * s) k p ∙ ap (λ z. z % p) (square_to_half s) in
    let b : (d * (w * w)) ^ k % p ≡ p - 1 =
    ap (λ z. z % p) (mul-pow d (w * w) k) ∙ mul-mod (d ^ k) ((w * w) ^ k) p ∙ ap (λ z. (z * ((w * w) ^ k % p)) % p) half_of_d
    ∙ ap (λ z. ((p - 1) * z) % p) (ap (λ z. z % p) (square_to_half w) ∙ fermat w n)
    ∙ (let o : (p - 1) * 1 ≡ p - 1 = omega arith in ap (λ z. z % p) o) ∙ mod-eq_of_lt (let l : p - 1 < p = omega arith in l) in
    elim (cases_eq (s % p) 0) [
      | inl z ↦ let c = zero_to s z in omega (arith, a, b, c, t)
      | inr m ↦ let c = fermat s m in omega (arith, a, b, c, t)
    ]

pub no_square : (s w : ℕ) → (d * (w * w)) % p ≡ (s * s) % p → w % p ≡ 0
no_square s w h =
    elim (cases_eq (w % p) 0) [
      | inl z ↦ z
      | inr n ↦ absurd (no_square_unit s w h n)
    ]

pub root_squared : (root_of_minus_1 * root_of_minus_1 + 1) % p ≡ 0
unfolding root_of_minus_1 power next_power times p
root_squared = refl

-- ---- 1/v
pub inverse_times : (v : ℕ) → v % p ≢ 0 → (v * inverse v) % p ≡ 1
unfolding inverse
inverse_times v h =
    let t = p_twice in
    let k : power 255 v (p - 2) ≡ v ^ (p - 2) % p = power_is 255 v (p - 2) (omega arith) in
    ap (λ z. (v * z) % p) k ∙ mul-mod_second v (v ^ (p - 2)) p ∙ inverse_is v h

pub p_prime : (a b : ℕ) → a * b ≡ p → (a ≡ 1) ⊎ (a ≡ p)
p_prime a b h = (generated_prime p p_generated).only a b h

pub inverse_law : (x : ℕ) → x % p ≢ 0 → times x (inverse x) ≡ 1
unfolding times
inverse_law x h = inverse_times x h
