-- The sum of two points of the curve: no denominator of its fractions is 0, and it is a point of the curve.
use Rattle.std.proofs.Common.{◌≡◌, ◌≢◌, ℕ, ◌+◌, ◌*◌, ◌%◌, ◌<◌, inl, inr, refl, sym, ◌∙◌, ap, arith, mod-eq_of_lt}
use Rattle.std.proofs.Math.Nat.{zero-mod}
use Rattle.std.proofs.lemmas.Bool.{cases_eq}
use Rattle.std.proofs.lemmas.Nat.{mul-mod_second}
use Rattle.ed25519.specs.Field.{p}
use Rattle.ed25519.specs.Curve.{d, root_of_minus_1}
use Rattle.ed25519.proofs.Residues.{p_twice}
use Rattle.ed25519.proofs.Congruence.{less, by_multiples, both_plus, both_times}
use Rattle.ed25519.proofs.Sums.{IsUnit, unit_product}
use Rattle.ed25519.proofs.Units.{unit_of, without_unit, zero_factor, cancel_with, no_square, root_squared}

-- -x^2 + y^2 = 1 + d x^2 y^2, with x^2 on the other side
unfoldable pub OnCurve : ℕ → ℕ → Type 0
OnCurve x y = (y * y) % p ≡ (1 + x * x + d * (x * x) * (y * y)) % p

-- Where e = d x1 x2 y1 y2 has the square 1, and j the square -1, d times a square is a square.
squares : (d' X Y x y j : ℕ) → (Y * Y) % p ≡ (1 + X * X + d' * (X * X) * (Y * Y)) % p → (y * y) % p ≡ (1 + x * x + d' * (x * x) * (y * y)) % p
    → (j * j + 1) % p ≡ 0 → ((d' * X * x * Y * y) * (d' * X * x * Y * y)) % p ≡ 1 % p
    → (d' * (X * Y * (y + j * x) * (X * Y * (y + j * x)))) % p ≡ ((Y + j * (d' * X * x * Y * y) * X) * (Y + j * (d' * X * x * Y * y) * X)) % p
squares d' X Y x y j c1 c2 hj he =
    let e : ℕ = d' * X * x * Y * y in
    let b1 : ℕ = 1 + X * X + d' * (X * X) * (Y * Y) in
    let b2 : ℕ = 1 + x * x + d' * (x * x) * (y * y) in
    let a3 : ℕ = j * j + 1 in
    let z : a3 % p ≡ 0 % p = hj ∙ sym (zero-mod p) in
    sym (cancel_with
    ((Y + j * e * X) * (Y + j * e * X)) (d' * (X * Y * (y + j * x) * (X * Y * (y + j * x))))
    (a3 * (e * e * (X * X)) + Y * Y + (X * X + 1) * 1 + d' * (X * X) * (Y * Y) * b2 + 0 * (d' * (X * X) * (Y * Y) * (x * x)))
    (0 * (e * e * (X * X)) + b1 + (X * X + 1) * (e * e) + d' * (X * X) * (Y * Y) * (y * y) + a3 * (d' * (X * X) * (Y * Y) * (x * x)))
    (both_plus _ _ _ _
    (both_plus _ _ _ _
    (both_plus _ _ _ _
    (both_plus _ _ _ _ (both_times a3 (e * e * (X * X)) 0 (e * e * (X * X)) z refl) c1)
    (both_times (X * X + 1) 1 (X * X + 1) (e * e) refl (sym he)))
    (both_times (d' * (X * X) * (Y * Y)) b2 (d' * (X * X) * (Y * Y)) (y * y) refl (sym c2)))
    (both_times 0 (d' * (X * X) * (Y * Y) * (x * x)) a3 (d' * (X * X) * (Y * Y) * (x * x)) (sym z) refl))
    (omega arith))

-- ---- no denominator is 0
two_unit : (y : ℕ) → (2 * y) % p ≡ 0 → y % p ≡ 0
two_unit y h =
    let t = p_twice in
    let c : y * 2 ≡ 2 * y = omega arith in
    let l : 2 % p ≡ 2 = mod-eq_of_lt (let k : 2 < p = omega arith in k) in
    zero_factor y 2 (ap (λ z. z % p) c ∙ h) (λ z. absurd (omega (arith, z, l)))

zero_times : (a b : ℕ) → a % p ≡ 0 → (b * a) % p ≡ 0
zero_times a b h = let z : b * 0 ≡ 0 = omega arith in sym (mul-mod_second b a p) ∙ ap (λ w. (b * w) % p) h ∙ ap (λ w. w % p) z ∙ zero-mod p

other_root : (i : ℕ) → (i * i + 1) % p ≡ 0 → (less * i * (less * i) + 1) % p ≡ 0
other_root i h =
    by_multiples (less * i * (less * i) + 1) (i * i + 1) (i * i) (less * (i * i)) (omega arith) ∙ h

-- of two points of the curve d x1 x2 y1 y2 doesn't have the square 1
pub not_a_unit_root : (X Y x y : ℕ) → OnCurve X Y → OnCurve x y → ((d * X * x * Y * y) * (d * X * x * Y * y)) % p ≡ 1 % p → ⊥
unfolding OnCurve
not_a_unit_root X Y x y c1 c2 he =
    let t = p_twice in
    let one : 1 % p ≡ 1 = mod-eq_of_lt (let k : 1 < p = omega arith in k) in
    let i : ℕ = root_of_minus_1 in
    let j : ℕ = less * i in
    let hj : (j * j + 1) % p ≡ 0 = other_root i root_squared in
    let a = no_square (Y + i * (d * X * x * Y * y) * X) (X * Y * (y + i * x)) (squares d X Y x y i c1 c2 root_squared he) in
    let b = no_square (Y + j * (d * X * x * Y * y) * X) (X * Y * (y + j * x)) (squares d X Y x y j c1 c2 hj he) in
    elim (cases_eq ((X * Y) % p) 0) [
      | inl z ↦
          let f : d * X * x * Y * y * (d * X * x * Y * y) ≡ d * X * x * Y * y * (d * x * y) * (X * Y) = omega arith in
          let g = ap (λ w. w % p) f ∙ zero_times (X * Y) (d * X * x * Y * y * (d * x * y)) z in
          omega (arith, g, he, one)
      | inr n ↦
          let f : X * Y * (y + i * x) ≡ (y + i * x) * (X * Y) = omega arith in
          let g : X * Y * (y + j * x) ≡ (y + j * x) * (X * Y) = omega arith in
          let u : (y + i * x) % p ≡ 0 = zero_factor (y + i * x) (X * Y) (sym (ap (λ w. w % p) f) ∙ a) n in
          let v : (y + j * x) % p ≡ 0 = zero_factor (y + j * x) (X * Y) (sym (ap (λ w. w % p) g) ∙ b) n in
          let w : (2 * y) % p ≡ (y + i * x + (y + j * x)) % p = by_multiples (2 * y) (y + i * x + (y + less * i * x)) (i * x) 0 (omega arith) in
          let z : (2 * y) % p ≡ 0 = w ∙ both_plus (y + i * x) (y + j * x) 0 0 (u ∙ sym (zero-mod p)) (v ∙ sym (zero-mod p)) ∙ zero-mod p in
          let q : d * X * x * Y * y * (d * X * x * Y * y) ≡ d * X * x * Y * y * (d * X * x * Y) * y = omega arith in
          let r = ap (λ k. k % p) q ∙ zero_times y (d * X * x * Y * y * (d * X * x * Y)) (two_unit y z) in
          omega (arith, r, he, one)
    ]

pub first_denominator : (X Y x y e : ℕ) → OnCurve X Y → OnCurve x y → e ≡ d * X * x * Y * y → (1 + e) % p ≢ 0
first_denominator X Y x y e c1 c2 he z =
    let k : (1 + e) % p ≡ 0 % p = z ∙ sym (zero-mod p) in
    let o : 0 * e ≡ 0 * 1 = omega arith in
    let f : (e * e) % p ≡ 1 % p =
    cancel_with (e * e) 1 ((1 + e) * e) ((1 + e) * 1)
    (both_times (1 + e) e 0 e k refl ∙ ap (λ w. w % p) o ∙ sym (both_times (1 + e) 1 0 1 k refl)) (omega arith) in
    not_a_unit_root X Y x y c1 c2 (rw he at f)

pub second_denominator : (X Y x y e : ℕ) → OnCurve X Y → OnCurve x y → e ≡ d * X * x * Y * y → (1 + less * e) % p ≢ 0
second_denominator X Y x y e c1 c2 he z =
    let k : (1 + less * e) % p ≡ 0 % p = z ∙ sym (zero-mod p) in
    let o : e + 0 ≡ e = omega arith in
    let g : e % p ≡ 1 % p =
    sym (ap (λ w. w % p) o) ∙ sym (both_plus e (1 + less * e) e 0 refl k) ∙ by_multiples (e + (1 + less * e)) 1 0 e (omega arith) in
    let f : (e * e) % p ≡ 1 % p = both_times e e 1 1 g g in
    not_a_unit_root X Y x y c1 c2 (rw he at f)

-- ---- the sum is a point of the curve
closed_by : (d' X Y x y : ℕ) → (Y * Y) % p ≡ (1 + X * X + d' * (X * X) * (Y * Y)) % p → (y * y) % p ≡ (1 + x * x + d' * (x * x) * (y * y)) % p
    → ((Y * y + X * x) * (Y * y + X * x) * ((1 + d' * X * x * Y * y) * (1 + d' * X * x * Y * y))
    + 2 * (d' * X * x * Y * y) * ((X * y + x * Y) * (X * y + x * Y)) + 2 * (d' * X * x * Y * y * (d' * X * x * Y * y))) % p
    ≡ ((X * y + x * Y) * (X * y + x * Y) * (1 + d' * X * x * Y * y * (d' * X * x * Y * y))
    + d' * ((X * y + x * Y) * (X * y + x * Y)) * ((Y * y + X * x) * (Y * y + X * x)) + 1
    + d' * X * x * Y * y * (d' * X * x * Y * y) * (d' * X * x * Y * y * (d' * X * x * Y * y))) % p
closed_by d' X Y x y c1 c2 =
    let b1 : ℕ = 1 + X * X + d' * (X * X) * (Y * Y) in
    let b2 : ℕ = 1 + x * x + d' * (x * x) * (y * y) in
    let m1 : ℕ = d' * d' * d' * X * X * Y * Y * x * x * x * x * y * y * y * y + d' * X * X * x * x * y * y * y * y
    + d' * d' * Y * Y * x * x * x * x * y * y * y * y + d' * Y * Y * x * x * x * x * y * y + x * x * x * x + 2 * x * x * y * y * y * y
    + y * y * y * y in
    let n1 : ℕ = d' * d' * X * X * x * x * x * x * y * y * y * y + d' * X * X * x * x * x * x * y * y + d' * Y * Y * x * x * y * y * y * y
    + d' * d' * x * x * x * x * y * y * y * y + 2 * d' * x * x * x * x * y * y * y * y + 2 * x * x * x * x * y * y + 2 * d' * x * x * y * y
    + 4 * x * x * y * y in
    let m2 : ℕ = d' * X * X * X * X * x * x * y * y + 2 * d' * X * X * x * x * y * y + 2 * X * X * x * x * y * y + X * X * y * y
    + d' * Y * Y * Y * Y * x * x * y * y + Y * Y * x * x + d' * x * x * y * y + 2 * x * x * y * y + y * y + 1 in
    let n2 : ℕ = X * X * x * x + 2 * d' * Y * Y * x * x * y * y + 2 * Y * Y * x * x * y * y + Y * Y * y * y + x * x in
    cancel_with _ _ (m1 * (Y * Y) + n1 * b1 + m2 * (y * y) + n2 * b2) (m1 * b1 + n1 * (Y * Y) + m2 * b2 + n2 * (y * y))
    (both_plus _ _ _ _
    (both_plus _ _ _ _ (both_plus _ _ _ _ (both_times m1 (Y * Y) m1 b1 refl c1) (both_times n1 b1 n1 (Y * Y) refl (sym c1)))
    (both_times m2 (y * y) m2 b2 refl c2))
    (both_times n2 b2 n2 (y * y) refl (sym c2)))
    (omega arith)

over_denominators : (d' e s t u : ℕ)
    → (t * t * ((1 + e) * (1 + e)) + 2 * e * (s * s) + 2 * (e * e)) % p ≡ (s * s * (1 + e * e) + d' * (s * s) * (t * t) + 1 + e * e * (e * e)) % p
    → (u * u + 2 * e) % p ≡ (1 + e * e) % p
    → (t * t * ((1 + e) * (1 + e))) % p ≡ (u * u * ((1 + e) * (1 + e)) + s * s * (u * u) + d' * (s * s) * (t * t)) % p
over_denominators d' e s t u h g =
    let k : ℕ = (1 + e) * (1 + e) + s * s in
    cancel_with _ _
    (t * t * ((1 + e) * (1 + e)) + 2 * e * (s * s) + 2 * (e * e) + (1 + e * e) * k)
    (s * s * (1 + e * e) + d' * (s * s) * (t * t) + 1 + e * e * (e * e) + (u * u + 2 * e) * k)
    (both_plus _ _ _ _ h (both_times (1 + e * e) k (u * u + 2 * e) k (sym g) refl))
    (omega arith)

-- the coordinates of a sum satisfy the equation, for denominators that aren't 0
sum_on : (d' e s t u v x y : ℕ)
    → (t * t * ((1 + e) * (1 + e)) + 2 * e * (s * s) + 2 * (e * e)) % p ≡ (s * s * (1 + e * e) + d' * (s * s) * (t * t) + 1 + e * e * (e * e)) % p
    → v ≡ 1 + e → u ≡ 1 + less * e → (x * v) % p ≡ s % p → (y * u) % p ≡ t % p → IsUnit u → IsUnit v
    → (y * y) % p ≡ (1 + x * x + d' * (x * x) * (y * y)) % p
sum_on d' e s t u v x y h hv hu hx hy iu iv =
    let w : ℕ = u * u * (v * v) in
    let iw : IsUnit w = unit_product (u * u) (v * v) (unit_product u u iu iu) (unit_product v v iv iv) in
    let uu : (u * u + 2 * e) % p ≡ (1 + e * e) % p =
    rw hu (by_multiples ((1 + less * e) * (1 + less * e) + 2 * e) (1 + e * e) (e * e) (less * (e * e) + 2 * e) (omega arith)) in
    let a : y * y * w ≡ y * u * (y * u) * (v * v) = omega arith in
    let b : (1 + x * x + d' * (x * x) * (y * y)) * w ≡ w + x * v * (x * v) * (u * u) + d' * (x * v * (x * v)) * (y * u * (y * u)) = omega arith in
    let l : (y * y * w) % p ≡ (t * t * (v * v)) % p =
    ap (λ z. z % p) a ∙ both_times (y * u * (y * u)) (v * v) (t * t) (v * v) (both_times (y * u) (y * u) t t hy hy) refl in
    let r : ((1 + x * x + d' * (x * x) * (y * y)) * w) % p ≡ (w + s * s * (u * u) + d' * (s * s) * (t * t)) % p =
    ap (λ z. z % p) b ∙ both_plus _ _ _ _
    (both_plus w _ w _ refl (both_times (x * v * (x * v)) (u * u) (s * s) (u * u) (both_times (x * v) (x * v) s s hx hx) refl))
    (both_times (d' * (x * v * (x * v))) (y * u * (y * u)) (d' * (s * s)) (t * t)
    (both_times d' (x * v * (x * v)) d' (s * s) refl (both_times (x * v) (x * v) s s hx hx)) (both_times (y * u) (y * u) t t hy hy)) in
    let c : (t * t * (v * v)) % p ≡ (w + s * s * (u * u) + d' * (s * s) * (t * t)) % p = rw hv (over_denominators d' e s t u h uu) in
    without_unit (y * y) (1 + x * x + d' * (x * x) * (y * y)) w iw (l ∙ c ∙ sym r)

pub sum_on_curve : (X Y x y e X' Y' : ℕ) → OnCurve X Y → OnCurve x y → e ≡ d * X * x * Y * y
    → (X' * (1 + e)) % p ≡ (X * y + x * Y) % p → (Y' * (1 + less * e)) % p ≡ (Y * y + X * x) % p → OnCurve X' Y'
unfolding OnCurve
sum_on_curve X Y x y e X' Y' c1 c2 he hx hy =
    sum_on d e (X * y + x * Y) (Y * y + X * x) (1 + less * e) (1 + e) X' Y' (rw he (closed_by d X Y x y c1 c2)) refl refl hx hy
    (unit_of (1 + less * e) (second_denominator X Y x y e c1 c2 he)) (unit_of (1 + e) (first_denominator X Y x y e c1 c2 he))
