-- Numbers that are the same modulo p.
use Rattle.std.proofs.Common.{◌≡◌, ℕ, ◌+◌, ◌-◌, ◌*◌, ◌%◌, ◌^◌, ◌<◌, refl, sym, ◌∙◌, ap, arith, mod-eq_of_lt}
use Rattle.std.proofs.Math.Nat.{add-mul-mod_self_right, add-mod, mod-mod}
use Rattle.std.proofs.lemmas.Nat.{mul-mod, mul-mod_second}
use Rattle.ed25519.specs.Field.{p, plus, minus, times}
use Rattle.ed25519.proofs.Residues.{below}

-- p - 1, which is -1
unfoldable pub less : ℕ
less = 2 ^ 255 - 20

pub p_is : p ≡ less + 1
unfolding p less
p_is = refl

-- two numbers and multiples of p that make them equal
pub by_multiples : (a b j k : ℕ) → a + j * (less + 1) ≡ b + k * (less + 1) → a % p ≡ b % p
by_multiples a b j k h =
    let g : a + j * p ≡ b + k * p = rw (p_is) h in
    sym (add-mul-mod_self_right a j p) ∙ ap (λ z. z % p) g ∙ add-mul-mod_self_right b k p

pub both_plus : (a b x y : ℕ) → a % p ≡ x % p → b % p ≡ y % p → (a + b) % p ≡ (x + y) % p
both_plus a b x y h g = add-mod a b p ∙ ap (λ z. (z + b % p) % p) h ∙ ap (λ z. (x % p + z) % p) g ∙ sym (add-mod x y p)

pub both_times : (a b x y : ℕ) → a % p ≡ x % p → b % p ≡ y % p → (a * b) % p ≡ (x * y) % p
both_times a b x y h g = mul-mod a b p ∙ ap (λ z. (z * (b % p)) % p) h ∙ ap (λ z. (x % p * z) % p) g ∙ sym (mul-mod x y p)

-- ---- the operations
pub of_plus : (x y : ℕ) → plus x y % p ≡ (x + y) % p
unfolding plus
of_plus x y = mod-mod (x + y) p

pub of_times : (x y : ℕ) → times x y % p ≡ (x * y) % p
unfolding times
of_times x y = mod-mod (x * y) p

pub of_minus : (x y : ℕ) → minus x y % p ≡ (x + less * y) % p
unfolding minus
of_minus x y =
    let l = below y in
    let e = p_is in
    let q : p - y % p + y % p ≡ less + 1 = omega arith in
    let f : (x + (p - y % p)) % p ≡ (x + less * (y % p)) % p =
    by_multiples (x + (p - y % p)) (x + less * (y % p)) (y % p) 1 (omega (arith, q)) in
    mod-mod (x + (p - y % p)) p ∙ f
    ∙ both_plus x (less * (y % p)) x (less * y) refl (mul-mod_second less y p)

pub small : (x : ℕ) → x < p → x % p ≡ x
small x h = mod-eq_of_lt h
