-- Where the powers of g modulo n have n - 1 for their period, n is a prime, and each number between 0
-- and n is such a power.
use Rattle.std.proofs.Common.{◌≡◌, ◌≢◌, ℕ, zero, suc, ◌+◌, ◌-◌, ◌*◌, ◌/◌, ◌%◌, ◌^◌, ◌<◌, ◌≤◌, Bool, true, eqb, ◌⊎◌, inl, inr, List, [], ◌∷◌, sym, ◌∙◌, ap, arith, mod-lt, mod-eq_of_lt, pow-suc, pow-add, mul-le-mul_right}
use Rattle.std.proofs.Math.Nat.{div-add-mod', mul-mod_right, mul-div_left, zero-mod, pow-zero}
use Rattle.std.proofs.lemmas.Bool.{cases_eq, eqb-true, eq-eqb}
use Rattle.std.proofs.lemmas.Nat.{mul-mod, mul-mod_first, mul-mod_second, pow-mod}
use Rattle.primes.specs.Primes.{IsPrime}
use Rattle.primes.proofs.Periods.{period_of, without}
use Rattle.primes.proofs.Pigeons.{collision}

-- primes at which the power of g with the exponent e / q isn't 1 modulo n
unfoldable pub Factors : ℕ → ℕ → ℕ → List ℕ → Type 0
Factors e g n [] = Unit {0}
Factors e g n (q ∷ qs) = IsPrime q × (g ^ (e / q) % n ≢ 1) × Factors e g n qs

unfoldable pub all_product : List ℕ → ℕ
all_product [] = 1
all_product (q ∷ qs) = q * all_product qs

-- one of these primes divides what divides their product
factor_of : (e g n : ℕ) (qs : List ℕ) (c : ℕ) → Factors e g n qs → 1 < c → all_product qs % c ≡ 0
    → (q : ℕ) × IsPrime q × (g ^ (e / q) % n ≢ 1) × (c % q ≡ 0)
unfolding Factors all_product
factor_of e g n [] c f l h = absurd (let o : 1 % c ≡ 1 = mod-eq_of_lt l in omega (arith, o, h))
factor_of e g n (q ∷ qs) c f l h =
    elim (without q (all_product qs) c f.0 (omega arith) h) [
      | inl d ↦ (q, f.0, f.1, d)
      | inr r ↦ factor_of e g n qs c f.2 l r
    ]

-- whether the power is 1
is_one : ℕ → ℕ → ℕ → Bool
is_one g n k = eqb (g ^ k % n) 1

powers_closed : (g n x y : ℕ) → 1 < n → is_one g n x ≡ true → is_one g n y ≡ true → is_one g n (x + y) ≡ true
unfolding is_one
powers_closed g n x y l h k =
    let a = eqb-true (g ^ x % n) 1 h in
    let b = eqb-true (g ^ y % n) 1 k in
    let e : g ^ (x + y) % n ≡ 1 =
    ap (λ z. z % n) (pow-add g x y) ∙ mul-mod (g ^ x) (g ^ y) n ∙ ap (λ z. (z * (g ^ y % n)) % n) a ∙ ap (λ z. (1 * z) % n) b ∙ mod-eq_of_lt l in
    eq-eqb (g ^ (x + y) % n) 1 e

powers_cancel : (g n x y : ℕ) → is_one g n x ≡ true → is_one g n (x + y) ≡ true → is_one g n y ≡ true
unfolding is_one
powers_cancel g n x y h k =
    let a = eqb-true (g ^ x % n) 1 h in
    let b = eqb-true (g ^ (x + y) % n) 1 k in
    let o : 1 * g ^ y ≡ g ^ y = omega arith in
    let e : g ^ y % n ≡ 1 =
    ap (λ z. z % n) (sym o) ∙ ap (λ z. (z * g ^ y) % n) (sym a) ∙ mul-mod_first (g ^ x) (g ^ y) n ∙ ap (λ z. z % n) (sym (pow-add g x y)) ∙ b in
    eq-eqb (g ^ y % n) 1 e

at_most_one : (g n e c m : ℕ) (qs : List ℕ) → 1 < n → 0 < e → Factors e g n qs → all_product qs ≡ e → c * m ≡ e
    → ((j : ℕ) → g ^ (j * m) % n ≡ 1) → c ≡ 1
at_most_one g n e c m qs l p f h k multiples =
    elim (cases_eq c 0) [
      | inl z ↦ absurd (let s : c * m ≡ 0 = ap (λ y. y * m) z ∙ (let o : 0 * m ≡ 0 = omega arith in o) in omega (arith, s, k))
      | inr nz ↦
          elim (cases_eq c 1) [
            | inl o ↦ o
            | inr other ↦
                let d : all_product qs % c ≡ 0 = ap (λ y. y % c) (h ∙ sym k) ∙ mul-mod_right c m in
                let q = factor_of e g n qs c f (omega arith) d in
                let b : c / q.0 * q.0 ≡ c = let s = div-add-mod' c q.0 in let z = q.3 in omega (arith, s, z) in
                let a : (c / q.0) * m * q.0 ≡ e = let s = ap (λ y. y * m) b in omega (arith, s, k) in
                let pq : 0 < q.0 = let w = q.1.above_one in omega (arith, w) in
                let x : e / q.0 ≡ c / q.0 * m = ap (λ y. y / q.0) (sym a) ∙ mul-div_left (c / q.0 * m) pq in
                absurd (q.2 (ap (λ y. g ^ y % n) x ∙ multiples (c / q.0)))
          ]
    ]

-- the least exponent is the whole one
full_period : (g n e : ℕ) (qs : List ℕ) → 1 < n → 0 < e → Factors e g n qs → all_product qs ≡ e → g ^ e % n ≡ 1
    → (x : ℕ) → g ^ x % n ≡ 1 → x % e ≡ 0
unfolding is_one
full_period g n e qs l p f h one x hx =
    let t : is_one g n e ≡ true = eq-eqb (g ^ e % n) 1 one in
    let r = period_of (is_one g n) e (λ x y a b. powers_closed g n x y l a b) (λ x y a b. powers_cancel g n x y a b) p t in
    let m : ℕ = r.0 in
    let d : e % m ≡ 0 = r.1.divides e t in
    let k : e / m * m ≡ e = let s = div-add-mod' e m in omega (arith, s, d) in
    let whole : e / m ≡ 1 = at_most_one g n e (e / m) m qs l p f h k (λ j. eqb-true (g ^ (j * m) % n) 1 (r.1.multiples j)) in
    let same : m ≡ e = let s = ap (λ z. z * m) whole in omega (arith, s, k) in
    ap (λ z. x % z) (sym same) ∙ r.1.divides x (eq-eqb (g ^ x % n) 1 hx)

pub pow-pow : (g a b : ℕ) → (g ^ a) ^ b ≡ g ^ (b * a)
pow-pow g a zero = pow-zero (g ^ a) ∙ (let e : 0 ≡ 0 * a = omega arith in sym (pow-zero g) ∙ ap (λ z. g ^ z) e)
pow-pow g a (suc b) =
    let e : b * a + a ≡ suc b * a = omega arith in
    pow-suc (g ^ a) b ∙ ap (λ z. z * g ^ a) (pow-pow g a b) ∙ sym (pow-add g (b * a) a) ∙ ap (λ z. g ^ z) e

power_of_one : (n k : ℕ) → 1 < n → 1 ^ k % n ≡ 1
power_of_one n zero l = ap (λ z. z % n) (pow-zero 1) ∙ mod-eq_of_lt l
power_of_one n (suc k) l = let e : 1 ^ k * 1 ≡ 1 ^ k = omega arith in ap (λ z. z % n) (pow-suc 1 k ∙ e) ∙ power_of_one n k l

-- a power of a power whose exponent times e is 1
power_one : (g e n i : ℕ) → 1 < n → g ^ e % n ≡ 1 → (g ^ i) ^ e % n ≡ 1
power_one g e n i l h =
    let f : e * i ≡ i * e = omega arith in
    ap (λ z. z % n) (pow-pow g i e ∙ ap (λ z. g ^ z) f ∙ sym (pow-pow g e i)) ∙ sym (pow-mod (g ^ e) i n) ∙ ap (λ z. z ^ i % n) h ∙ power_of_one n i l

-- no power is 0 modulo n
power_not_zero : (g e n i : ℕ) → 1 < n → 0 < e → g ^ e % n ≡ 1 → g ^ i % n ≢ 0
power_not_zero g e n i l p h z =
    let o = power_one g e n i l h in
    let s : suc (e - 1) ≡ e = omega arith in
    let a : (g ^ i) ^ e % n ≡ 0 =
    ap (λ k. (g ^ i) ^ k % n) (sym s) ∙ ap (λ w. w % n) (pow-suc (g ^ i) (e - 1)) ∙ sym (mul-mod_second ((g ^ i) ^ (e - 1)) (g ^ i) n)
    ∙ ap (λ w. ((g ^ i) ^ (e - 1) * w) % n) z ∙ (let q : (g ^ i) ^ (e - 1) * 0 ≡ 0 = omega arith in ap (λ w. w % n) q) ∙ zero-mod n in
    absurd (omega (arith, o, a))

-- two equal powers have exponents a whole period apart
equal_powers : (g e n i j : ℕ) → 1 < n → i ≤ e → i ≤ j → g ^ e % n ≡ 1 → g ^ i % n ≡ g ^ j % n → g ^ (j - i) % n ≡ 1
equal_powers g e n i j l li lj h s =
    let r : ℕ = e - i in
    let a : i + r ≡ e = omega arith in
    let b : j + r ≡ (j - i) + e = omega arith in
    let x : g ^ (j + r) % n ≡ 1 =
    ap (λ z. z % n) (pow-add g j r) ∙ sym (mul-mod_first (g ^ j) (g ^ r) n) ∙ ap (λ z. (z * g ^ r) % n) (sym s) ∙ mul-mod_first (g ^ i) (g ^ r) n
    ∙ ap (λ z. z % n) (sym (pow-add g i r)) ∙ ap (λ z. g ^ z % n) a ∙ h in
    let o : g ^ (j - i) * 1 ≡ g ^ (j - i) = omega arith in
    ap (λ z. z % n) (sym o) ∙ ap (λ z. (g ^ (j - i) * z) % n) (sym h) ∙ mul-mod_second (g ^ (j - i)) (g ^ e) n
    ∙ ap (λ z. z % n) (sym (pow-add g (j - i) e)) ∙ ap (λ z. g ^ z % n) (sym b) ∙ x

-- 0, a, and the powers
in_turn : ℕ → ℕ → ℕ → ℕ → ℕ
in_turn a g n zero = 0
in_turn a g n (suc zero) = a
in_turn a g n (suc (suc i)) = g ^ i % n

in_turn-below : (a g n i : ℕ) → a < n → in_turn a g n i < n
unfolding in_turn
in_turn-below a g n zero h = omega arith
in_turn-below a g n (suc zero) h = h
in_turn-below a g n (suc (suc i)) h = mod-lt (g ^ i) (omega arith)

-- a is a power, since of 0, a and the n - 1 powers two are the same
by_collision : (a g n e i j : ℕ) → 0 < a → suc e ≡ n → 1 < n → 0 < e → g ^ e % n ≡ 1 → ((x : ℕ) → g ^ x % n ≡ 1 → x % e ≡ 0)
    → i < j → j < suc n → in_turn a g n i ≡ in_turn a g n j → (k : ℕ) × (g ^ k % n ≡ a)
unfolding in_turn
by_collision a g n e i zero pa se l pe h f lt b s = absurd (omega arith)
by_collision a g n e zero (suc zero) pa se l pe h f lt b s = absurd (omega arith)
by_collision a g n e (suc i) (suc zero) pa se l pe h f lt b s = absurd (omega arith)
by_collision a g n e zero (suc (suc j)) pa se l pe h f lt b s = absurd (power_not_zero g e n j l pe h (sym s))
by_collision a g n e (suc zero) (suc (suc j)) pa se l pe h f lt b s = (j, sym s)
by_collision a g n e (suc (suc i)) (suc (suc j)) pa se l pe h f lt b s =
    let o = equal_powers g e n i j l (omega arith) (omega arith) h s in
    let z = f (j - i) o in
    let m : (j - i) % e ≡ j - i = mod-eq_of_lt (let q : j - i < e = omega arith in q) in
    absurd (omega (arith, z, m))

pub record IsGenerated (n : ℕ) : Type 0 where
  pub above_one : 1 < n
  pub to_the_last : (a : ℕ) → 0 < a → a < n → a ^ (n - 1) % n ≡ 1

pub generated : (g n : ℕ) (qs : List ℕ) → 2 < n → Factors (n - 1) g n qs → all_product qs ≡ n - 1 → g ^ (n - 1) % n ≡ 1 → IsGenerated n
generated g n qs l f h one =
    let lo : 1 < n = omega arith in
    let pe : 0 < n - 1 = omega arith in
    let se : suc (n - 1) ≡ n = omega arith in
    let period = full_period g n (n - 1) qs lo pe f h one in
    record {
      above_one = lo;
      to_the_last = λ a pa la.
          (let c = collision n (in_turn a g n) (λ i li. in_turn-below a g n i la) in
          let k = by_collision a g n (n - 1) c.first c.second pa se lo pe one period c.apart c.within c.same in
          ap (λ z. z ^ (n - 1) % n) (sym k.1) ∙ pow-mod (g ^ k.0) (n - 1) n ∙ power_one g (n - 1) n k.0 lo one);
    }

-- d strictly between 1 and n doesn't divide n
zero_by : (d e n k : ℕ) → d * e ≡ n → 0 < k → (e * d ^ k) % n ≡ 0
zero_by d e n zero h p = absurd (omega arith)
zero_by d e n (suc k) h p =
    let f : e * (d ^ k * d) ≡ n * d ^ k = let q = ap (λ z. z * d ^ k) h in omega (arith, q) in
    ap (λ z. (e * z) % n) (pow-suc d k) ∙ ap (λ z. z % n) f ∙ mul-mod_right n (d ^ k)

pub positive_factors : (n d e : ℕ) → 1 < n → d * e ≡ n → (0 < d) × (0 < e)
positive_factors n zero e l h = absurd (let z : 0 * e ≡ 0 = omega arith in omega (arith, h, z))
positive_factors n (suc d) zero l h = absurd (let z : suc d * 0 ≡ 0 = omega arith in omega (arith, h, z))
positive_factors n (suc d) (suc e) l h = (omega arith, omega arith)

smaller : (n d e : ℕ) → 1 < d → 0 < e → d * e ≡ n → e < n
smaller n d e l p h = let q = mul-le-mul_right {m = 2} {n = d} e l in omega (arith, q, h)

between : (n d e : ℕ) → IsGenerated n → d * e ≡ n → d ≢ 1 → d ≢ n → ⊥
between n d e r h other nn =
    let l = r.above_one in
    let ps = positive_factors n d e l h in
    let pd = ps.0 in
    let pe = ps.1 in
    let ld : 1 < d = omega arith in
    let le : e < n = smaller n d e ld pe h in
    let g : e * d ≡ n = omega arith in
    let n1 : e ≢ 1 = λ o. nn (let q = ap (λ z. d * z) o in omega (arith, q, h)) in
    let lo : 1 < e = omega arith in
    let dn : d < n = smaller n e d lo pd g in
    let one = r.to_the_last d pd dn in
    let z = zero_by d e n (n - 1) h (omega arith) in
    let a : (e * d ^ (n - 1)) % n ≡ e =
    sym (mul-mod_second e (d ^ (n - 1)) n) ∙ ap (λ w. (e * w) % n) one ∙ (let o : e * 1 ≡ e = omega arith in ap (λ w. w % n) o) ∙ mod-eq_of_lt le in
    omega (arith, z, a, pe)

only_divisors : (n d e : ℕ) → IsGenerated n → d * e ≡ n → (d ≡ 1) ⊎ (d ≡ n)
only_divisors n d e r h =
    let l = r.above_one in
    elim (cases_eq d 1) [
      | inl o ↦ inl o
      | inr other ↦
          elim (cases_eq d n) [
            | inl o ↦ inr o
            | inr nn ↦ absurd (between n d e r h other nn)
          ]
    ]

-- such a number is a prime
pub generated_prime : (n : ℕ) → IsGenerated n → IsPrime n
generated_prime n r =
    let l = r.above_one in
    record { above_one = l; only = λ d e h. only_divisors n d e r h }
