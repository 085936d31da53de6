-- Numbers that pass a test which is closed under sums and differences: they are the multiples of the
-- least of them. And what follows for the divisors of a product of primes.
use Rattle.std.proofs.Common.{◌≡◌, ℕ, zero, suc, ◌+◌, ◌*◌, ◌/◌, ◌%◌, ◌<◌, ◌≤◌, Bool, true, false, eqb, ◌⊎◌, inl, inr, refl, sym, ◌∙◌, ap, arith, mod-lt}
use Rattle.std.proofs.Math.Nat.{div-add-mod', mul-mod_right, add-mod, mod-add-mod, zero-mod}
use Rattle.std.proofs.lemmas.Bool.{cases_eq, eqb-true, eq-eqb}
use Rattle.primes.specs.Primes.{IsPrime}

pub record IsPeriod (T : ℕ → Bool) (m : ℕ) : Type 0 where
  pub positive : 0 < m
  pub multiples : (k : ℕ) → T (k * m) ≡ true
  pub divides : (x : ℕ) → T x ≡ true → x % m ≡ 0

-- the least positive number up to n that passes
pub record IsLeast (T : ℕ → Bool) (m : ℕ) : Type 0 where
  pub positive : 0 < m
  pub passes : T m ≡ true
  pub least : (k : ℕ) → 0 < k → k < m → T k ≡ false

both_cases : (b : Bool) → (b ≡ true) ⊎ (b ≡ false)
both_cases true = inl refl
both_cases false = inr refl

up_to : (T : ℕ → Bool) (n k : ℕ) → ((j : ℕ) → 0 < j → j ≤ n → T j ≡ false) → T (suc n) ≡ false → 0 < k → k ≤ suc n → T k ≡ false
up_to T n k f g p l =
    elim (cases_eq k (suc n)) [
      | inl e ↦ ap T e ∙ g
      | inr ne ↦ f k p (omega arith)
    ]

least_of : (T : ℕ → Bool) (n : ℕ) → ((m : ℕ) × IsLeast T m) ⊎ ((k : ℕ) → 0 < k → k ≤ n → T k ≡ false)
least_of T zero = inr (λ k p l. absurd (omega arith))
least_of T (suc n) =
    elim (least_of T n) [
      | inl m ↦ inl m
      | inr none ↦
          elim (both_cases (T (suc n))) [
            | inl t ↦ inl (suc n, record { positive = omega arith; passes = t; least = λ k p l. none k p (omega arith) })
            | inr f ↦ inr (λ k p l. up_to T n k none f p l)
          ]
    ]

zero_passes : (T : ℕ → Bool) (m : ℕ) → ((x y : ℕ) → T x ≡ true → T (x + y) ≡ true → T y ≡ true) → T m ≡ true → T 0 ≡ true
zero_passes T m cancel h = let e : m ≡ m + 0 = omega arith in cancel m 0 h (sym (ap T e) ∙ h)

multiple_passes : (T : ℕ → Bool) (m k : ℕ) → ((x y : ℕ) → T x ≡ true → T y ≡ true → T (x + y) ≡ true) → T 0 ≡ true → T m ≡ true → T (k * m) ≡ true
multiple_passes T m zero closed z h = let e : 0 ≡ 0 * m = omega arith in sym (ap T e) ∙ z
multiple_passes T m (suc k) closed z h =
    let e : m + k * m ≡ suc k * m = omega arith in
    sym (ap T e) ∙ closed m (k * m) h (multiple_passes T m k closed z h)

remainder_zero : (T : ℕ → Bool) (m x : ℕ) → IsLeast T m → ((x y : ℕ) → T x ≡ true → T (x + y) ≡ true → T y ≡ true)
    → ((k : ℕ) → T (k * m) ≡ true) → T x ≡ true → x % m ≡ 0
remainder_zero T m x l cancel multiples h =
    let e : x / m * m + x % m ≡ x = div-add-mod' x m in
    let t : T (x % m) ≡ true = cancel (x / m * m) (x % m) (multiples (x / m)) (ap T e ∙ h) in
    let b : x % m < m = mod-lt x l.positive in
    elim (cases_eq (x % m) 0) [
      | inl z ↦ z
      | inr n ↦ absurd (let f : T (x % m) ≡ false = l.least (x % m) (omega arith) b in let q : true ≡ false = sym t ∙ f in (cc))
    ]

pub period_of : (T : ℕ → Bool) (a : ℕ) → ((x y : ℕ) → T x ≡ true → T y ≡ true → T (x + y) ≡ true)
    → ((x y : ℕ) → T x ≡ true → T (x + y) ≡ true → T y ≡ true) → 0 < a → T a ≡ true → (m : ℕ) × IsPeriod T m
period_of T a closed cancel p h =
    elim (least_of T a) [
      | inl m ↦
          let z = zero_passes T m.0 cancel m.1.passes in (
            m.0,
            record {
              positive = m.1.positive;
              multiples = λ k. multiple_passes T m.0 k closed z m.1.passes;
              divides = λ x t. remainder_zero T m.0 x m.1 cancel (λ k. multiple_passes T m.0 k closed z m.1.passes) t;
            },
          )
      | inr none ↦ absurd (let f : T a ≡ false = none a p (omega arith) in let q : true ≡ false = sym h ∙ f in (cc))
    ]

-- ---- primes
quotient_of : (x m : ℕ) → x % m ≡ 0 → x / m * m ≡ x
quotient_of x m h = let e = div-add-mod' x m in omega (arith, e, h)

sum_zero : (x y m c : ℕ) → (x * m) % c ≡ 0 → (y * m) % c ≡ 0 → ((x + y) * m) % c ≡ 0
sum_zero x y m c h g =
    let e : (x + y) * m ≡ x * m + y * m = omega arith in
    ap (λ z. z % c) e ∙ add-mod (x * m) (y * m) c ∙ ap (λ z. (z + y * m % c) % c) h ∙ ap (λ z. (0 + z) % c) g ∙ zero-mod c

rest_zero : (x y m c : ℕ) → (x * m) % c ≡ 0 → ((x + y) * m) % c ≡ 0 → (y * m) % c ≡ 0
rest_zero x y m c h g =
    let e : (x + y) * m ≡ x * m + y * m = omega arith in
    let z : 0 + y * m ≡ y * m = omega arith in
    sym (ap (λ w. w % c) z) ∙ ap (λ w. (w + y * m) % c) (sym h) ∙ mod-add-mod (x * m) c (y * m) ∙ ap (λ w. w % c) (sym e) ∙ g

-- what divides q * m divides m, or is a multiple of q
pub without : (q m c : ℕ) → IsPrime q → 0 < c → (q * m) % c ≡ 0 → (c % q ≡ 0) ⊎ (m % c ≡ 0)
without q m c prime p h =
    let T : ℕ → Bool = λ x. eqb ((x * m) % c) 0 in
    let closed : (x y : ℕ) → T x ≡ true → T y ≡ true → T (x + y) ≡ true = λ x y a b.
    (let ea = eqb-true ((x * m) % c) 0 a in
    let eb = eqb-true ((y * m) % c) 0 b in
    eq-eqb (((x + y) * m) % c) 0 (sum_zero x y m c ea eb)) in
    let cancel : (x y : ℕ) → T x ≡ true → T (x + y) ≡ true → T y ≡ true = λ x y a b.
    (let ea = eqb-true ((x * m) % c) 0 a in
    let eb = eqb-true (((x + y) * m) % c) 0 b in
    eq-eqb ((y * m) % c) 0 (rest_zero x y m c ea eb)) in
    let tc : T c ≡ true = eq-eqb ((c * m) % c) 0 (mul-mod_right c m) in
    let tq : T q ≡ true = eq-eqb ((q * m) % c) 0 h in
    let r = period_of T c closed cancel p tc in
    let dq = r.1.divides q tq in
    let dc = r.1.divides c tc in
    let eq : r.0 * (q / r.0) ≡ q = let e = quotient_of q r.0 dq in omega (arith, e) in
    elim (prime.only r.0 (q / r.0) eq) [
      | inl one ↦
          let t = r.1.multiples 1 in
          let k : 1 * r.0 ≡ 1 = omega arith in
          let u : (1 * m) % c ≡ 0 = eqb-true ((1 * m) % c) 0 (sym (ap T k) ∙ t) in
          let o : 1 * m ≡ m = omega arith in
          inr (sym (ap (λ z. z % c) o) ∙ u)
      | inr same ↦ inl (sym (ap (λ z. c % z) same) ∙ dc)
    ]
