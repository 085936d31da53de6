-- The points of y² = x³ + a x + b modulo a prime p are a commutative group.
use Rattle.std.proofs.Common.{◌≡◌, ℕ, ◌+◌, ◌-◌, ◌*◌, ◌%◌, ◌^◌, ◌<◌, ◌⊎◌, inl, inr, refl, sym, ◌∙◌, ap, subst, arith}
use Rattle.std.proofs.Math.Nat.{mod-lt, mod-eq_of_lt}
use Rattle.std.proofs.lemmas.Bool.{cases_eq}
use Rattle.ecdsa.specs.Group.{Point, Infinity, Affine, difference, inverse, line_x, line_y, chord, tangent, add, On, IsOn, IsCurve}
use Rattle.ecdsa.proofs.Congruences.{Same, same_refl, same_sym, same_trans, same_from, same_mod, same_add, same_times, same_divide, same_below, square}
use Rattle.ecdsa.proofs.Lines.{difference_same, line_x_same, line_y_same}
use Rattle.ecdsa.proofs.Steps.{unit_same, chord_times, tangent_times, add_chord, add_tangent}
use Rattle.ecdsa.proofs.Sums.{sum_none, sum_first, sum_second}
use Rattle.ecdsa.proofs.Chords.{close, Slope, Third, chord_line, chord_curve, equal_y, carry, to_third, one_chord, one_x, one_y, flip, flip_third, negate, negate_third, back, back_third, double_y, double_point, negated_on, quotient, next_slope, one_sum_x, one_sum_y, collinear, same_ends, opposite_ends}

-- one point has the other's x, and y with the other sign
record Opposite (p x1 y1 x2 y2 : ℕ) : Type 0 where
  same : x1 ≡ x2
  none : (y1 + y2) % p ≡ 0

-- a sum that is not the point at infinity
record Sum (p a x1 y1 x2 y2 : ℕ) : Type 0 where
  apart : Opposite p x1 y1 x2 y2 → ⊥
  x : ℕ
  y : ℕ
  slope : ℕ
  x_below : x < p
  y_below : y < p
  is_slope : Slope p a x1 y1 x2 y2 slope
  is_third : Third p x1 y1 x2 x y slope
  is_sum : add p a (Affine x1 y1) (Affine x2 y2) ≡ Affine x y

sq : {p a b x y : ℕ} → On p a b x y → Same p (y * y) (x * x * x + a * x + b)
sq c = record { remainders = c.curve }

zero_same : {p x : ℕ} → 0 < p → x % p ≡ 0 → Same p x 0
zero_same {p} {x} pos h = record { remainders = h ∙ sym (mod-eq_of_lt pos) }

same_zero : {p x : ℕ} → 0 < p → Same p x 0 → x % p ≡ 0
same_zero {p} {x} pos h = h.remainders ∙ mod-eq_of_lt pos

-- what isn't 0 has an inverse
unit : {p a b : ℕ} → IsCurve p a b → (x : ℕ) → (x % p ≡ 0 → ⊥) → Same p (x * inverse p x) 1
unit {p} {a} {b} e x n = let m = e.more in unit_same p x (inverse p x) (omega arith) (e.units x n)

-- a difference is 0 between equal numbers alone
apart_by : {p x y : ℕ} → 0 < p → y < p → x < p → (x ≡ y → ⊥) → difference p y x % p ≡ 0 → ⊥
apart_by {p} {x} {y} pos ly lx n z =
    let hd : Same p (difference p y x + x) y = difference_same p y x (omega arith) in
    n (same_below lx ly (same_trans (same_from (let q : x ≡ 0 + x = omega arith in q)) (same_trans (same_add (same_sym (zero_same pos z)) (same_refl p x)) hd)))

-- ---- the sum by a chord, and by a tangent
by_chord : {p a b : ℕ} → IsCurve p a b → (x1 y1 x2 y2 : ℕ) → On p a b x1 y1 → On p a b x2 y2 → (x1 ≡ x2 → ⊥) → Sum p a x1 y1 x2 y2
by_chord {p} {a} {b} e x1 y1 x2 y2 c1 c2 n =
    let more : 3 < p = e.more in
    let pos : 0 < p = omega arith in
    let l1 : x1 < p = c1.x_below in
    let m1 : y1 < p = c1.y_below in
    let l2 : x2 < p = c2.x_below in
    let d = difference p x2 x1 in
    let hd : Same p (d + x1) x2 = difference_same p x2 x1 (omega arith) in
    let hg : Same p (difference p y2 y1 + y1) y2 = difference_same p y2 y1 (omega arith) in
    let nz : d % p ≡ 0 → ⊥ = apart_by pos l2 l1 n in
    let m = chord p x1 y1 x2 y2 in
    let t : Same p (m * d) (difference p y2 y1) = chord_times p x1 y1 x2 y2 (inverse p d) (omega arith) (e.units d nz) in
    let line : Same p (y2 + m * x1) (y1 + m * x2) = chord_line p x1 y1 x2 y2 m d (difference p y2 y1) pos hd t hg in
    let x3 = line_x p m x1 x2 in
    let b3 : x3 < p = mod-lt _ pos in
    record {
      apart = λ o. n o.same;
      x = x3;
      y = line_y p m x1 y1 x3;
      slope = m;
      x_below = b3;
      y_below = mod-lt _ pos;
      is_slope = record { line = line; curve = same_divide d (inverse p d) (unit e d nz) (chord_curve p a b x1 y1 x2 y2 m d pos hd line (sq c1) (sq c2)) };
      is_third = record { x = line_x_same p m x1 x2 pos (omega arith) (omega arith); y = line_y_same p m x1 y1 x3 pos (omega arith) (omega arith) };
      is_sum = add_chord p a x1 y1 x2 y2 n;
    }

by_tangent : {p a b : ℕ} → IsCurve p a b → (x y : ℕ) → On p a b x y → ((y + y) % p ≡ 0 → ⊥) → Sum p a x y x y
by_tangent {p} {a} {b} e x y c n =
    let more : 3 < p = e.more in
    let pos : 0 < p = omega arith in
    let lx : x < p = c.x_below in
    let ly : y < p = c.y_below in
    let twice : 2 * y ≡ y + y = omega arith in
    let nz : 2 * y % p % p ≡ 0 → ⊥ = λ z. n (ap (λ (k : ℕ). k % p) (sym twice) ∙ same_zero pos (same_trans (same_sym (same_mod p (2 * y))) (zero_same pos z))) in
    let m = tangent p a x y in
    let t : Same p (m * (2 * y)) (3 * x ^ 2 + a) = tangent_times p a x y (inverse p (2 * y % p)) (omega arith) (e.units (2 * y % p) nz) in
    let q = square x in
    let x3 = line_x p m x x in
    let b3 : x3 < p = mod-lt _ pos in
    record {
      apart = λ o. n o.none;
      x = x3;
      y = line_y p m x y x3;
      slope = m;
      x_below = b3;
      y_below = mod-lt _ pos;
      is_slope = record {
        line = same_refl p (y + m * x);
        curve = same_trans (same_from (ap (λ (k : ℕ). m * k) (sym twice))) (same_trans t (same_from
            (let k : 3 * x ^ 2 + a ≡ x * x + x * x + x * x + a = rw q (omega arith) in k)));
      };
      is_third = record { x = line_x_same p m x x pos (omega arith) (omega arith); y = line_y_same p m x y x3 pos (omega arith) (omega arith) };
      is_sum = add_tangent p a x y n;
    }

-- points with one x that aren't opposite are one
one_point : {p a b : ℕ} → IsCurve p a b → (x y1 y2 : ℕ) → On p a b x y1 → On p a b x y2 → ((y1 + y2) % p ≡ 0 → ⊥) → y1 ≡ y2
one_point {p} {a} {b} e x y1 y2 c1 c2 n =
    let more : 3 < p = e.more in
    let pos : 0 < p = omega arith in
    same_below c1.y_below c2.y_below (same_divide (y1 + y2) (inverse p (y1 + y2)) (unit e (y1 + y2) n) (equal_y p a b x y1 y2 pos (sq c1) (sq c2)))

same_x_sum : {p a b : ℕ} → IsCurve p a b → (x y1 y2 : ℕ) → On p a b x y1 → On p a b x y2 → ((y1 + y2) % p ≡ 0 → ⊥) → Sum p a x y1 x y2
same_x_sum {p} {a} {b} e x y1 y2 c1 c2 n =
    let h : y1 ≡ y2 = one_point e x y1 y2 c1 c2 n in
    let k : (y1 + y1) % p ≡ 0 → ⊥ = λ z. n (ap (λ (w : ℕ). (y1 + w) % p) (sym h) ∙ z) in
    subst (λ (w : ℕ). Sum p a x y1 x w) h (by_tangent e x y1 c1 k)

sum_of : {p a b : ℕ} → IsCurve p a b → (x1 y1 x2 y2 : ℕ) → On p a b x1 y1 → On p a b x2 y2 → Opposite p x1 y1 x2 y2 ⊎ Sum p a x1 y1 x2 y2
sum_of {p} {a} {b} e x1 y1 x2 y2 c1 c2 =
    elim (cases_eq x1 x2) [
      | inr n ↦ inr (by_chord e x1 y1 x2 y2 c1 c2 n)
      | inl s ↦
          elim (cases_eq ((y1 + y2) % p) 0) [
            | inl z ↦ inl (record { same = s; none = z })
            | inr n ↦ inr (subst (λ (w : ℕ). Sum p a x1 y1 w y2) s (same_x_sum e x1 y1 y2 c1 (subst (λ (w : ℕ). On p a b w y2) (sym s) c2) n))
          ]
    ]

-- ---- there is one slope
one_slope : {p a b : ℕ} → IsCurve p a b → (x1 y1 x2 y2 l m : ℕ) → x1 < p → x2 < p → (Opposite p x1 y1 x2 y2 → ⊥)
    → Slope p a x1 y1 x2 y2 l → Slope p a x1 y1 x2 y2 m → Same p l m
one_slope {p} {a} {b} e x1 y1 x2 y2 l m l1 l2 other s t =
    let more : 3 < p = e.more in
    let pos : 0 < p = omega arith in
    elim (cases_eq x1 x2) [
      | inr n ↦
          let d = difference p x2 x1 in
          same_divide d (inverse p d) (unit e d (apart_by pos l2 l1 n))
          (one_chord p a x1 y1 x2 y2 l m d pos (difference_same p x2 x1 (omega arith)) s t)
      | inl q ↦
          same_divide (y1 + y2) (inverse p (y1 + y2)) (unit e (y1 + y2) (λ z. other (record { same = q; none = z })))
          (same_trans s.curve (same_sym t.curve))
    ]

-- a third point on a line through two that aren't opposite is their sum
sum_is : {p a b : ℕ} → IsCurve p a b → (x1 y1 x2 y2 x3 y3 l : ℕ) → On p a b x1 y1 → On p a b x2 y2 → (Opposite p x1 y1 x2 y2 → ⊥)
    → x3 < p → y3 < p → Slope p a x1 y1 x2 y2 l → Third p x1 y1 x2 x3 y3 l → add p a (Affine x1 y1) (Affine x2 y2) ≡ Affine x3 y3
sum_is {p} {a} {b} e x1 y1 x2 y2 x3 y3 l c1 c2 other lx ly s t =
    let more : 3 < p = e.more in
    let pos : 0 < p = omega arith in
    elim (sum_of e x1 y1 x2 y2 c1 c2) [
      | inl o ↦ absurd (other o)
      | inr q ↦
          let h = one_slope e x1 y1 x2 y2 q.slope l c1.x_below c2.x_below other q.is_slope s in
          let hx = one_x p x1 y1 x2 q.x q.y x3 y3 q.slope l pos q.is_third t h in
          let hy = one_y p x1 y1 x2 q.x q.y x3 y3 q.slope l pos q.is_third t h hx in
          q.is_sum ∙ ap (λ (z : ℕ). Affine z q.y) (same_below q.x_below lx hx) ∙ ap (λ (z : ℕ). Affine x3 z) (same_below q.y_below ly hy)
    ]

-- ---- points
pub minus : ℕ → Point → Point
minus p Infinity = Infinity
minus p (Affine x y) = Affine x (difference p 0 y)

turn : {p x1 y1 x2 y2 : ℕ} → Opposite p x2 y2 x1 y1 → Opposite p x1 y1 x2 y2
turn {p} {x1} {y1} {x2} {y2} o = record { same = sym o.same; none = let c : y1 + y2 ≡ y2 + y1 = omega arith in ap (λ (k : ℕ). k % p) c ∙ o.none }

minus_same : (p y : ℕ) → y < p → Same p (difference p 0 y + y) 0
minus_same p y l = difference_same p 0 y (omega arith)

minus_on : {p a b : ℕ} (x y : ℕ) → On p a b x y → On p a b x (difference p 0 y)
minus_on {p} {a} {b} x y c =
    let l : y < p = c.y_below in
    let pos : 0 < p = omega arith in
    record {
      x_below = c.x_below;
      y_below = mod-lt _ pos;
      curve = (same_trans (negated_on p (difference p 0 y) y pos (minus_same p y l)) (sq c)).remainders;
    }

pub minus_is_on : (p a b : ℕ) (P : Point) → IsOn p a b P → IsOn p a b (minus p P)
unfolding IsOn minus
minus_is_on p a b Infinity h = tt
minus_is_on p a b (Affine x y) h = minus_on x y h

-- y below p is the opposite of what is opposite to it
opposite_y : (p y o z : ℕ) → 0 < p → z < p → y < p → Same p (o + y) 0 → Same p (o + z) 0 → z ≡ y
opposite_y p y o z pos lz ly h k =
    same_below lz ly (close z y pos (same_add (same_sym k) h) (omega arith))

minus_minus : {p a b : ℕ} (x y : ℕ) → On p a b x y → difference p 0 (difference p 0 y) ≡ y
minus_minus {p} {a} {b} x y c =
    let l : y < p = c.y_below in
    let pos : 0 < p = omega arith in
    let o = difference p 0 y in
    let lo : o < p = mod-lt _ pos in
    let h : Same p (difference p 0 o + o) 0 = minus_same p o lo in
    opposite_y p y o (difference p 0 o) pos (mod-lt _ pos) l (minus_same p y l)
    (same_trans (same_from (let e : o + difference p 0 o ≡ difference p 0 o + o = omega arith in e)) h)

opposite_is : {p a b : ℕ} (x1 y1 x2 y2 : ℕ) → On p a b x1 y1 → On p a b x2 y2 → Opposite p x1 y1 x2 y2 → Affine x2 y2 ≡ Affine x1 (difference p 0 y1)
opposite_is {p} {a} {b} x1 y1 x2 y2 c1 c2 o =
    let l : y1 < p = c1.y_below in
    let pos : 0 < p = omega arith in
    let m = difference p 0 y1 in
    let h : Same p (m + y1) 0 = minus_same p y1 l in
    let e : y2 ≡ m = opposite_y p m y1 y2 pos c2.y_below (mod-lt _ pos)
    (same_trans (same_from (let q : y1 + m ≡ m + y1 = omega arith in q)) h) (zero_same pos o.none) in
    ap (λ (z : ℕ). Affine z y2) (sym o.same) ∙ ap (λ (z : ℕ). Affine x1 z) e

opposite_minus : {p a b : ℕ} (x y : ℕ) → On p a b x y → Opposite p x y x (difference p 0 y)
opposite_minus {p} {a} {b} x y c =
    let l : y < p = c.y_below in
    let pos : 0 < p = omega arith in
    record {
      same = refl;
      none = let q : y + difference p 0 y ≡ difference p 0 y + y = omega arith in ap (λ (k : ℕ). k % p) q ∙ same_zero pos (minus_same p y l);
    }

-- ---- the order of two points, and that their sum is one
commutes_affine : {p a b : ℕ} → IsCurve p a b → (x1 y1 x2 y2 : ℕ) → On p a b x1 y1 → On p a b x2 y2
    → add p a (Affine x1 y1) (Affine x2 y2) ≡ add p a (Affine x2 y2) (Affine x1 y1)
commutes_affine {p} {a} {b} e x1 y1 x2 y2 c1 c2 =
    let more : 3 < p = e.more in
    let pos : 0 < p = omega arith in
    elim (sum_of e x1 y1 x2 y2 c1 c2) [
      | inl o ↦ let t : Opposite p x2 y2 x1 y1 = turn o in sym (sum_none p a x1 y1 x2 y2 o.same o.none) ∙ sum_none p a x2 y2 x1 y1 t.same t.none
      | inr s ↦
          s.is_sum ∙ sym (sum_is e x2 y2 x1 y1 s.x s.y s.slope c2 c1 (λ o. s.apart (turn o)) s.x_below s.y_below
          (flip p a x1 y1 x2 y2 s.slope pos s.is_slope) (flip_third p a x1 y1 x2 y2 s.x s.y s.slope pos s.is_slope s.is_third))
    ]

pub commutes : {p a b : ℕ} → IsCurve p a b → (P Q : Point) → IsOn p a b P → IsOn p a b Q → add p a P Q ≡ add p a Q P
unfolding IsOn add
commutes {p} {a} {b} e Infinity Q h k = sum_second p a Q
commutes {p} {a} {b} e (Affine x y) Infinity h k = refl
commutes {p} {a} {b} e (Affine x1 y1) (Affine x2 y2) h k = commutes_affine e x1 y1 x2 y2 h k

sum_on : {p a b x1 y1 x2 y2 : ℕ} → IsCurve p a b → On p a b x1 y1 → (s : Sum p a x1 y1 x2 y2) → On p a b s.x s.y
sum_on {p} {a} {b} {x1} {y1} {x2} {y2} e c s =
    let l : s.y < p = s.y_below in
    let pos : 0 < p = omega arith in
    let o = difference p 0 s.y in
    let n : Same p (o + s.y) 0 = minus_same p s.y l in
    record {
      x_below = s.x_below;
      y_below = s.y_below;
      curve = (same_trans (same_sym (negated_on p o s.y pos n))
          (carry p a b x1 y1 s.x o s.slope pos (to_third p a x1 y1 x2 y2 s.x s.y o s.slope pos s.is_slope s.is_third n) (sq c))).remainders;
    }

pub closed : {p a b : ℕ} → IsCurve p a b → (P Q : Point) → IsOn p a b P → IsOn p a b Q → IsOn p a b (add p a P Q)
unfolding IsOn
closed {p} {a} {b} e Infinity Q h k = subst (IsOn p a b) (sum_first p a Q) k
closed {p} {a} {b} e (Affine x y) Infinity h k = subst (IsOn p a b) (sum_second p a (Affine x y)) h
closed {p} {a} {b} e (Affine x1 y1) (Affine x2 y2) h k =
    elim (sum_of e x1 y1 x2 y2 h k) [
      | inl o ↦ subst (IsOn p a b) (sum_none p a x1 y1 x2 y2 o.same o.none) tt
      | inr s ↦ subst (IsOn p a b) (sym s.is_sum) (sum_on e h s)
    ]

-- ---- the opposite of a sum
negated_slope : (p l : ℕ) → 0 < p → Same p (difference p 0 (l % p) + l) 0
negated_slope p l pos =
    let b : l % p < p = mod-lt l pos in
    same_trans (same_add (same_refl p (difference p 0 (l % p))) (same_sym (same_mod p l))) (difference_same p 0 (l % p) (omega arith))

both_minus : (p y1 y2 o1 o2 : ℕ) → 0 < p → Same p (y1 + y2) 0 → Same p (o1 + y1) 0 → Same p (o2 + y2) 0 → Same p (o1 + o2) 0
both_minus p y1 y2 o1 o2 pos h n1 n2 = close (o1 + o2) 0 pos (same_add (same_sym n1) (same_add (same_sym n2) h)) (omega arith)

-- two sums that are both of opposite points are none
still_apart : {p a b : ℕ} (x1 y1 x2 y2 : ℕ) → On p a b x1 y1 → On p a b x2 y2 → (Opposite p x1 y1 x2 y2 → ⊥)
    → Opposite p x1 (difference p 0 y1) x2 (difference p 0 y2) → ⊥
still_apart {p} {a} {b} x1 y1 x2 y2 c1 c2 other o =
    let l1 : y1 < p = c1.y_below in
    let l2 : y2 < p = c2.y_below in
    let pos : 0 < p = omega arith in
    let o1 = difference p 0 y1 in
    let o2 = difference p 0 y2 in
    let h1 : Same p (y1 + o1) 0 = same_trans (same_from (let q : y1 + o1 ≡ o1 + y1 = omega arith in q)) (minus_same p y1 l1) in
    let h2 : Same p (y2 + o2) 0 = same_trans (same_from (let q : y2 + o2 ≡ o2 + y2 = omega arith in q)) (minus_same p y2 l2) in
    other (record { same = o.same; none = same_zero pos (both_minus p o1 o2 y1 y2 pos (zero_same pos o.none) h1 h2) })

minus_sum_affine : {p a b : ℕ} → IsCurve p a b → (x1 y1 x2 y2 : ℕ) → On p a b x1 y1 → On p a b x2 y2
    → minus p (add p a (Affine x1 y1) (Affine x2 y2)) ≡ add p a (Affine x1 (difference p 0 y1)) (Affine x2 (difference p 0 y2))
unfolding minus
minus_sum_affine {p} {a} {b} e x1 y1 x2 y2 c1 c2 =
    let more : 3 < p = e.more in
    let pos : 0 < p = omega arith in
    let o1 = difference p 0 y1 in
    let o2 = difference p 0 y2 in
    let n1 : Same p (o1 + y1) 0 = minus_same p y1 c1.y_below in
    let n2 : Same p (o2 + y2) 0 = minus_same p y2 c2.y_below in
    elim (sum_of e x1 y1 x2 y2 c1 c2) [
      | inl o ↦
          ap (minus p) (sym (sum_none p a x1 y1 x2 y2 o.same o.none))
          ∙ sum_none p a x1 o1 x2 o2 o.same (same_zero pos (both_minus p y1 y2 o1 o2 pos (zero_same pos o.none) n1 n2))
      | inr s ↦
          let k = difference p 0 (s.slope % p) in
          let nm : Same p (k + s.slope) 0 = negated_slope p s.slope pos in
          let n3 : Same p (difference p 0 s.y + s.y) 0 = minus_same p s.y s.y_below in
          ap (minus p) s.is_sum ∙ sym (sum_is e x1 o1 x2 o2 s.x (difference p 0 s.y) k (minus_on x1 y1 c1) (minus_on x2 y2 c2)
          (still_apart x1 y1 x2 y2 c1 c2 s.apart) s.x_below (mod-lt _ pos)
          (negate p a x1 y1 o1 x2 y2 o2 s.slope k pos s.is_slope n1 n2 nm)
          (negate_third p x1 y1 o1 x2 s.x s.y (difference p 0 s.y) s.slope k pos s.is_third n1 n3 nm))
    ]

minus_sum : {p a b : ℕ} → IsCurve p a b → (P Q : Point) → IsOn p a b P → IsOn p a b Q → minus p (add p a P Q) ≡ add p a (minus p P) (minus p Q)
unfolding IsOn minus add
minus_sum {p} {a} {b} e Infinity Q h k = refl
minus_sum {p} {a} {b} e (Affine x y) Infinity h k = refl
minus_sum {p} {a} {b} e (Affine x1 y1) (Affine x2 y2) h k = minus_sum_affine e x1 y1 x2 y2 h k

-- ---- -P and P are taken away
no_double : {p a b : ℕ} → IsCurve p a b → (x1 y1 x2 y2 : ℕ) → On p a b x1 y1 → (s : Sum p a x1 (difference p 0 y1) x2 y2)
    → Opposite p x1 y1 s.x s.y → ⊥
no_double {p} {a} {b} e x1 y1 x2 y2 c s o =
    let more : 3 < p = e.more in
    let pos : 0 < p = omega arith in
    let m = difference p 0 y1 in
    let n : Same p (m + y1) 0 = minus_same p y1 c.y_below in
    let t : Third p x1 m x2 x1 s.y s.slope = subst (λ (z : ℕ). Third p x1 m x2 z s.y s.slope) (sym o.same) s.is_third in
    let n4 : Same p (y1 + s.y) 0 = zero_same pos o.none in
    let two : 2 % p ≡ 2 = mod-eq_of_lt (omega arith) in
    let u : Same p (2 * inverse p 2) 1 = unit e 2 (λ z. absurd (omega arith)) in
    let d = double_y p a x1 y1 m x2 y2 s.y s.slope pos s.is_slope t n n4 in
    let z : Same p y1 0 = same_divide 2 (inverse p 2) u
    (same_trans (same_from (let q : y1 * 2 ≡ 2 * y1 = omega arith in q)) (same_trans d (same_from (let q : 0 ≡ 0 * 2 = omega arith in q)))) in
    e.smooth (same_zero pos (double_point p a b x1 y1 m x2 y2 s.y s.slope pos s.is_slope t n n4 (sq c) z))

cancels_affine : {p a b : ℕ} → IsCurve p a b → (x1 y1 x2 y2 : ℕ) → On p a b x1 y1 → On p a b x2 y2
    → add p a (Affine x1 y1) (add p a (Affine x1 (difference p 0 y1)) (Affine x2 y2)) ≡ Affine x2 y2
cancels_affine {p} {a} {b} e x1 y1 x2 y2 c1 c2 =
    let more : 3 < p = e.more in
    let pos : 0 < p = omega arith in
    let o1 = difference p 0 y1 in
    let d1 : On p a b x1 o1 = minus_on x1 y1 c1 in
    let n : Same p (o1 + y1) 0 = minus_same p y1 c1.y_below in
    elim (sum_of e x1 o1 x2 y2 d1 c2) [
      | inl o ↦
          ap (add p a (Affine x1 y1)) (sym (sum_none p a x1 o1 x2 y2 o.same o.none)) ∙ sym (sum_second p a (Affine x1 y1))
          ∙ sym (opposite_is x1 o1 x2 y2 d1 c2 o ∙ ap (λ (z : ℕ). Affine x1 z) (minus_minus x1 y1 c1))
      | inr s ↦
          let k = difference p 0 (s.slope % p) in
          let nm : Same p (k + s.slope) 0 = negated_slope p s.slope pos in
          ap (add p a (Affine x1 y1)) s.is_sum
          ∙ sum_is e x1 y1 s.x s.y x2 y2 k c1 (sum_on e d1 s) (no_double e x1 y1 x2 y2 c1 s) c2.x_below c2.y_below
          (back p a x1 y1 o1 x2 y2 s.x s.y s.slope k pos s.is_slope s.is_third n nm)
          (back_third p a x1 y1 o1 x2 y2 s.x s.y s.slope k pos s.is_slope s.is_third n nm)
    ]

pub opposites : (p a b : ℕ) (P : Point) → IsOn p a b P → add p a P (minus p P) ≡ Infinity
unfolding IsOn minus add
opposites p a b Infinity h = refl
opposites p a b (Affine x y) h = let o : Opposite p x y x (difference p 0 y) = opposite_minus x y h in sym (sum_none p a x y x (difference p 0 y) o.same o.none)

pub cancels : {p a b : ℕ} → IsCurve p a b → (P Q : Point) → IsOn p a b P → IsOn p a b Q → add p a P (add p a (minus p P) Q) ≡ Q
unfolding IsOn minus
cancels {p} {a} {b} e Infinity Q h k = sym (sum_first p a Q ∙ sum_first p a (add p a Infinity Q))
cancels {p} {a} {b} e (Affine x y) Infinity h k =
    ap (add p a (Affine x y)) (sym (sum_second p a (Affine x (difference p 0 y)))) ∙ opposites p a b (Affine x y) h
cancels {p} {a} {b} e (Affine x1 y1) (Affine x2 y2) h k = cancels_affine e x1 y1 x2 y2 h k

minus_twice : (p a b : ℕ) (P : Point) → IsOn p a b P → minus p (minus p P) ≡ P
unfolding IsOn minus
minus_twice p a b Infinity h = refl
minus_twice p a b (Affine x y) h = ap (λ (z : ℕ). Affine x z) (minus_minus x y h)

cancels_back : {p a b : ℕ} → IsCurve p a b → (P Q : Point) → IsOn p a b P → IsOn p a b Q → add p a (minus p P) (add p a P Q) ≡ Q
cancels_back {p} {a} {b} e P Q h k =
    ap (λ (R : Point). add p a (minus p P) (add p a R Q)) (sym (minus_twice p a b P h)) ∙ cancels e (minus p P) Q (minus_is_on p a b P h) k

-- ---- associativity
-- where the sum of the last two is the opposite of the first, and of points that cancel
opposed_right : {p a b : ℕ} → IsCurve p a b → (P Q R : Point) → IsOn p a b P → IsOn p a b Q → R ≡ minus p Q → add p a (add p a P Q) R ≡ P
opposed_right {p} {a} {b} e P Q R h k r =
    ap (add p a (add p a P Q)) r
    ∙ commutes e (add p a P Q) (minus p Q) (closed e P Q h k) (minus_is_on p a b Q k)
    ∙ ap (add p a (minus p Q)) (commutes e P Q h k)
    ∙ cancels_back e Q P k h

-- Q and the opposite of P + Q make the opposite of P
rest_of_sum : {p a b : ℕ} → IsCurve p a b → (P Q : Point) → IsOn p a b P → IsOn p a b Q → add p a Q (minus p (add p a P Q)) ≡ minus p P
rest_of_sum {p} {a} {b} e P Q h k =
    let mp = minus_is_on p a b P h in
    let mq = minus_is_on p a b Q k in
    ap (add p a Q) (minus_sum e P Q h k ∙ commutes e (minus p P) (minus p Q) mp mq) ∙ cancels e Q (minus p P) k mp

ends_in_none : {p a b : ℕ} → IsCurve p a b → (P Q R S : Point) → IsOn p a b P → IsOn p a b Q → add p a P Q ≡ S → R ≡ minus p S
    → add p a P (add p a Q R) ≡ Infinity
ends_in_none {p} {a} {b} e P Q R S h k s r =
    ap (λ (T : Point). add p a P (add p a Q T)) (r ∙ ap (minus p) (sym s)) ∙ ap (add p a P) (rest_of_sum e P Q h k) ∙ opposites p a b P h

begins_in_none : {p a b : ℕ} → IsCurve p a b → (P Q R S : Point) → IsOn p a b P → IsOn p a b Q → IsOn p a b R → add p a Q R ≡ S → S ≡ minus p P
    → add p a (add p a P Q) R ≡ Infinity
begins_in_none {p} {a} {b} e P Q R S h k l s r =
    let c = closed e Q R k l in
    let q : P ≡ minus p (add p a R Q) =
    sym (minus_twice p a b P h) ∙ ap (minus p) (sym r ∙ sym s ∙ commutes e Q R k l) in
    ap (λ (T : Point). add p a T R) (commutes e P Q h k ∙ ap (add p a Q) q ∙ rest_of_sum e R Q l k)
    ∙ commutes e (minus p R) R (minus_is_on p a b R l) l ∙ opposites p a b R l

-- the two slopes are the same
on_one_line : {p a b : ℕ} → IsCurve p a b → (x1 y1 x2 y2 x3 y3 : ℕ) → On p a b x1 y1 → On p a b x2 y2 → On p a b x3 y3
    → (s4 : Sum p a x1 y1 x2 y2) → (s6 : Sum p a x2 y2 x3 y3) → (s5 : Sum p a s4.x s4.y x3 y3) → (s7 : Sum p a x1 y1 s6.x s6.y)
    → Same p s4.slope s6.slope → Affine s5.x s5.y ≡ Affine s7.x s7.y
on_one_line {p} {a} {b} e x1 y1 x2 y2 x3 y3 c1 c2 c3 s4 s6 s5 s7 h =
    let more : 3 < p = e.more in
    let pos : 0 < p = omega arith in
    let l1 : x1 < p = c1.x_below in
    let l3 : x3 < p = c3.x_below in
    elim (cases_eq x3 x1) [
      | inl f ↦
          let fy : y1 ≡ y3 = same_below c1.y_below c3.y_below
          (same_ends p a x1 y1 x2 y2 x3 y3 s4.slope s6.slope pos s4.is_slope s6.is_slope h (same_from (sym f))) in
          let one : Affine x3 y3 ≡ Affine x1 y1 = ap (λ (z : ℕ). Affine z y3) f ∙ ap (λ (z : ℕ). Affine x1 z) (sym fy) in
          let sums : Affine s4.x s4.y ≡ Affine s6.x s6.y =
          sym s4.is_sum ∙ commutes_affine e x1 y1 x2 y2 c1 c2 ∙ ap (add p a (Affine x2 y2)) (sym one) ∙ s6.is_sum in
          sym s5.is_sum ∙ commutes_affine e s4.x s4.y x3 y3 (sum_on e c1 s4) c3
          ∙ ap (λ (T : Point). add p a T (Affine s4.x s4.y)) one ∙ ap (add p a (Affine x1 y1)) sums ∙ s7.is_sum
      | inr n ↦
          let d = difference p x1 x3 in
          let hd : Same p (d + x3) x1 = difference_same p x1 x3 (omega arith) in
          let f : Same p x3 s4.x = same_divide d (inverse p d) (unit e d (apart_by pos l1 l3 n))
          (collinear p a x1 y1 x2 y2 x3 y3 s4.x s4.y s4.slope s6.slope d pos s4.is_slope s4.is_third s6.is_slope h hd) in
          absurd (s5.apart (record {
            same = sym (same_below l3 s4.x_below f);
            none = same_zero pos (opposite_ends p a x1 y1 x2 y2 x3 y3 s4.x s4.y s4.slope s6.slope pos s4.is_slope s4.is_third s6.is_slope h f);
          }))
    ]

remainder_difference : (p l n : ℕ) → 0 < p → Same p (difference p (l % p) (n % p) + n) l
remainder_difference p l n pos =
    let b : n % p < p = mod-lt n pos in
    same_trans (same_add (same_refl p (difference p (l % p) (n % p))) (same_sym (same_mod p n)))
    (same_trans (difference_same p (l % p) (n % p) (omega arith)) (same_mod p l))

same_slope : {p l m w : ℕ} (k : ℕ) → Same p l m → Same p (m + k) w → Same p (l + k) w
same_slope {p} {l} {m} {w} k h g = same_trans (same_add h (same_refl p k)) g

-- they differ
on_two_lines : {p a b : ℕ} → IsCurve p a b → (x1 y1 x2 y2 x3 y3 : ℕ) → On p a b x1 y1 → On p a b x2 y2 → On p a b x3 y3
    → (s4 : Sum p a x1 y1 x2 y2) → (s6 : Sum p a x2 y2 x3 y3) → (s5 : Sum p a s4.x s4.y x3 y3) → (s7 : Sum p a x1 y1 s6.x s6.y)
    → (s4.slope % p ≡ s6.slope % p → ⊥) → Affine s5.x s5.y ≡ Affine s7.x s7.y
on_two_lines {p} {a} {b} e x1 y1 x2 y2 x3 y3 c1 c2 c3 s4 s6 s5 s7 other =
    let more : 3 < p = e.more in
    let pos : 0 < p = omega arith in
    let l3 : x3 < p = c3.x_below in
    let l = s4.slope in
    let n = s6.slope in
    let d = difference p (l % p) (n % p) in
    let d' = difference p (n % p) (l % p) in
    let bl : l % p < p = mod-lt l pos in
    let bn : n % p < p = mod-lt n pos in
    let hd : Same p (d + n) l = remainder_difference p l n pos in
    let hd' : Same p (d' + l) n = remainder_difference p n l pos in
    let u : Same p (d * inverse p d) 1 = unit e d (apart_by pos bl bn (λ q. other (sym q))) in
    let u' : Same p (d' * inverse p d') 1 = unit e d' (apart_by pos bn bl other) in
    let g = difference p x1 x3 in
    let hg : Same p (g + x3) x1 = difference_same p x1 x3 (omega arith) in
    let w = g * inverse p d in
    let t : Same p (w * d) g =
    same_trans (same_from (let q : g * inverse p d * d ≡ g * (d * inverse p d) = omega arith in q))
    (same_trans (same_times g u) (same_from (let q : g * 1 ≡ g = omega arith in q))) in
    let hw : Same p (w * l + x3) (w * n + x1) = quotient p x1 x3 l n d w g pos hd t hg in
    let m = difference p (w % p) (l % p) in
    let k = difference p (w % p) (n % p) in
    let hm : Same p (m + l) w = remainder_difference p w l pos in
    let hk : Same p (k + n) w = remainder_difference p w n pos in
    let f4 = flip p a x1 y1 x2 y2 l pos s4.is_slope in
    let f6 = flip p a x2 y2 x3 y3 n pos s6.is_slope in
    let g6 = flip_third p a x2 y2 x3 y3 s6.x s6.y n pos s6.is_slope s6.is_third in
    let sm : Slope p a s4.x s4.y x3 y3 m =
    next_slope p a x1 y1 x2 y2 x3 y3 s4.x s4.y l n w m d (inverse p d) pos s4.is_slope s4.is_third s6.is_slope hw hm hd u in
    let sk : Slope p a s6.x s6.y x1 y1 k =
    next_slope p a x3 y3 x2 y2 x1 y1 s6.x s6.y n l w k d' (inverse p d') pos f6 g6 f4 (same_sym hw) hk hd' u' in
    let em : Same p s5.slope m = one_slope e s4.x s4.y x3 y3 s5.slope m s4.x_below l3 s5.apart s5.is_slope sm in
    let ek : Same p s7.slope k = one_slope e x1 y1 s6.x s6.y s7.slope k c1.x_below s6.x_below s7.apart s7.is_slope (flip p a s6.x s6.y x1 y1 k pos sk) in
    let q = flip_third p a s4.x s4.y x3 y3 s5.x s5.y s5.slope pos s5.is_slope s5.is_third in
    let gm = same_slope l em hm in
    let gk = same_slope n ek hk in
    let hx : Same p s5.x s7.x =
    one_sum_x p a x1 y1 x2 y2 x3 y3 s4.x s4.y s5.x s5.y s6.x s6.y s7.x s7.y l n w s5.slope s7.slope pos
    s4.is_slope s6.is_slope s4.is_third s6.is_third q s7.is_third hw gm gk in
    let hy : Same p s5.y s7.y =
    one_sum_y p a x1 y1 x2 y2 x3 y3 s4.x s4.y s5.x s5.y s6.x s6.y s7.x s7.y l n w s5.slope s7.slope pos
    s4.is_slope s6.is_slope s4.is_third s6.is_third q s7.is_third hw gm gk hx in
    ap (λ (z : ℕ). Affine z s5.y) (same_below s5.x_below s7.x_below hx) ∙ ap (λ (z : ℕ). Affine s7.x z) (same_below s5.y_below s7.y_below hy)

generic : {p a b : ℕ} → IsCurve p a b → (x1 y1 x2 y2 x3 y3 : ℕ) → On p a b x1 y1 → On p a b x2 y2 → On p a b x3 y3
    → (s4 : Sum p a x1 y1 x2 y2) → (s6 : Sum p a x2 y2 x3 y3) → (s5 : Sum p a s4.x s4.y x3 y3) → (s7 : Sum p a x1 y1 s6.x s6.y)
    → Affine s5.x s5.y ≡ Affine s7.x s7.y
generic {p} {a} {b} e x1 y1 x2 y2 x3 y3 c1 c2 c3 s4 s6 s5 s7 =
    elim (cases_eq (s4.slope % p) (s6.slope % p)) [
      | inl h ↦ on_one_line e x1 y1 x2 y2 x3 y3 c1 c2 c3 s4 s6 s5 s7 (record { remainders = h })
      | inr n ↦ on_two_lines e x1 y1 x2 y2 x3 y3 c1 c2 c3 s4 s6 s5 s7 n
    ]

-- both sums of two are points
two_sums : {p a b : ℕ} → IsCurve p a b → (x1 y1 x2 y2 x3 y3 : ℕ) → On p a b x1 y1 → On p a b x2 y2 → On p a b x3 y3
    → (s4 : Sum p a x1 y1 x2 y2) → (s6 : Sum p a x2 y2 x3 y3)
    → add p a (add p a (Affine x1 y1) (Affine x2 y2)) (Affine x3 y3) ≡ add p a (Affine x1 y1) (add p a (Affine x2 y2) (Affine x3 y3))
unfolding IsOn minus
two_sums {p} {a} {b} e x1 y1 x2 y2 x3 y3 c1 c2 c3 s4 s6 =
    let P = Affine x1 y1 in
    let Q = Affine x2 y2 in
    let R = Affine x3 y3 in
    let c4 : On p a b s4.x s4.y = sum_on e c1 s4 in
    let c6 : On p a b s6.x s6.y = sum_on e c2 s6 in
    let left : add p a (add p a P Q) R ≡ add p a (Affine s4.x s4.y) R = ap (λ (T : Point). add p a T R) s4.is_sum in
    let right : add p a P (add p a Q R) ≡ add p a P (Affine s6.x s6.y) = ap (add p a P) s6.is_sum in
    elim (sum_of e s4.x s4.y x3 y3 c4 c3) [
      | inl o ↦
          left ∙ sym (sum_none p a s4.x s4.y x3 y3 o.same o.none)
          ∙ sym (ends_in_none e P Q R (Affine s4.x s4.y) c1 c2 s4.is_sum (opposite_is s4.x s4.y x3 y3 c4 c3 o))
      | inr s5 ↦
          elim (sum_of e x1 y1 s6.x s6.y c1 c6) [
            | inl o ↦
                begins_in_none e P Q R (Affine s6.x s6.y) c1 c2 c3 s6.is_sum (opposite_is x1 y1 s6.x s6.y c1 c6 o)
                ∙ sum_none p a x1 y1 s6.x s6.y o.same o.none ∙ sym right
            | inr s7 ↦ left ∙ s5.is_sum ∙ generic e x1 y1 x2 y2 x3 y3 c1 c2 c3 s4 s6 s5 s7 ∙ sym s7.is_sum ∙ sym right
          ]
    ]

associative_affine : {p a b : ℕ} → IsCurve p a b → (x1 y1 x2 y2 x3 y3 : ℕ) → On p a b x1 y1 → On p a b x2 y2 → On p a b x3 y3
    → add p a (add p a (Affine x1 y1) (Affine x2 y2)) (Affine x3 y3) ≡ add p a (Affine x1 y1) (add p a (Affine x2 y2) (Affine x3 y3))
unfolding IsOn minus
associative_affine {p} {a} {b} e x1 y1 x2 y2 x3 y3 c1 c2 c3 =
    let P = Affine x1 y1 in
    let Q = Affine x2 y2 in
    let R = Affine x3 y3 in
    elim (sum_of e x1 y1 x2 y2 c1 c2) [
      | inl o ↦
          ap (λ (T : Point). add p a T R) (sym (sum_none p a x1 y1 x2 y2 o.same o.none)) ∙ sym (sum_first p a R) ∙ sym (cancels e P R c1 c3)
          ∙ ap (λ (T : Point). add p a P (add p a T R)) (sym (opposite_is x1 y1 x2 y2 c1 c2 o))
      | inr s4 ↦
          elim (sum_of e x2 y2 x3 y3 c2 c3) [
            | inl o ↦
                opposed_right e P Q R c1 c2 (opposite_is x2 y2 x3 y3 c2 c3 o) ∙ sum_second p a P
                ∙ ap (add p a P) (sum_none p a x2 y2 x3 y3 o.same o.none)
            | inr s6 ↦ two_sums e x1 y1 x2 y2 x3 y3 c1 c2 c3 s4 s6
          ]
    ]

pub associative : {p a b : ℕ} → IsCurve p a b → (P Q R : Point) → IsOn p a b P → IsOn p a b Q → IsOn p a b R
    → add p a (add p a P Q) R ≡ add p a P (add p a Q R)
unfolding IsOn
associative {p} {a} {b} e Infinity Q R h k l = ap (λ (T : Point). add p a T R) (sym (sum_first p a Q)) ∙ sum_first p a (add p a Q R)
associative {p} {a} {b} e (Affine x y) Infinity R h k l =
    ap (λ (T : Point). add p a T R) (sym (sum_second p a (Affine x y))) ∙ ap (add p a (Affine x y)) (sum_first p a R)
associative {p} {a} {b} e (Affine x1 y1) (Affine x2 y2) Infinity h k l =
    sym (sum_second p a (add p a (Affine x1 y1) (Affine x2 y2))) ∙ ap (add p a (Affine x1 y1)) (sum_second p a (Affine x2 y2))
associative {p} {a} {b} e (Affine x1 y1) (Affine x2 y2) (Affine x3 y3) h k l = associative_affine e x1 y1 x2 y2 x3 y3 h k l
