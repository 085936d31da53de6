-- Doubling, and adding a point, in Jacobian coordinates.
use Rattle.std.proofs.Common.{◌≡◌, ℕ, ◌+◌, ◌-◌, ◌*◌, ◌%◌, ◌^◌, ◌<◌, refl, sym, ◌∙◌, ap, arith}
use Rattle.std.proofs.Math.Nat.{mod-lt, mod-eq_of_lt}
use Rattle.std.proofs.lemmas.Bool.{ne_eqb, eq-eqb}
use Rattle.ecdsa.specs.Group.{Point, Affine, difference, inverse, line_x, line_y, on_line, chord, tangent, add}
use Rattle.ecdsa.specs.Jacobian.{StandFor}
use Rattle.ecdsa.proofs.Congruences.{Same, same_refl, same_sym, same_trans, same_from, same_mod, same_add, same_mul, same_times, same_more, same_cancel, square}
use Rattle.ecdsa.proofs.Inverses.{inverse_of_unit}
use Rattle.ecdsa.proofs.Lines.{difference_same, line_scaled_x, line_scaled_y}

-- ---- units
one_mod : (p : ℕ) → 1 < p → 1 % p ≡ 1
one_mod p more = mod-eq_of_lt more

pub unit_same : (p x w : ℕ) → 1 < p → x * w % p ≡ 1 → Same p (x * w) 1
unit_same p x w more h = record { remainders = h ∙ sym (one_mod p more) }

pub same_unit : (p x w : ℕ) → 1 < p → Same p (x * w) 1 → x * w % p ≡ 1
same_unit p x w more h = h.remainders ∙ one_mod p more

-- a factor of a unit is one
pub factor_is_unit : (p u a b w : ℕ) → 1 < p → Same p u (a * b) → u * w % p ≡ 1 → a * (b * w) % p ≡ 1
factor_is_unit p u a b w more h e =
    same_unit p a (b * w) more
    (same_trans (same_from (let q : a * (b * w) ≡ a * b * w = omega arith in q))
    (same_trans (same_mul (same_sym h) (same_refl p w)) (unit_same p u w more e)))

-- a unit is not 0
pub unit_not_zero : (p x w : ℕ) → 1 < p → x * w % p ≡ 1 → Same p x 0 → ⊥
unit_not_zero p x w more e h =
    let s : Same p (x * w) (0 * w) = same_mul h (same_refl p w) in
    let t : 0 * w ≡ 0 = omega arith in
    let z : 0 % p ≡ 0 = mod-eq_of_lt (omega arith) in
    let q : 0 % p ≡ 1 = ap (λ (k : ℕ). k % p) (sym t) ∙ sym s.remainders ∙ e in
    omega arith

-- ---- slopes
-- λ of two points times the difference of the xs is that of the ys
pub chord_times : (p x1 y1 x2 y2 w : ℕ) → 1 < p → difference p x2 x1 * w % p ≡ 1
    → Same p (chord p x1 y1 x2 y2 * difference p x2 x1) (difference p y2 y1)
chord_times p x1 y1 x2 y2 w more u =
    let d = difference p x2 x1 in
    let n = difference p y2 y1 in
    let i = inverse p d in
    let v : Same p (d * i) 1 = unit_same p d i more (inverse_of_unit p d w (omega arith) u) in
    same_trans (same_mul (same_mod p (n * i)) (same_refl p d))
    (same_trans (same_from (let e : n * i * d ≡ n * (d * i) = omega arith in e))
    (same_trans (same_times n v) (same_from (let e : n * 1 ≡ n = omega arith in e))))

-- λ of twice a point times 2 y is 3 x² + a
pub tangent_times : (p a x y w : ℕ) → 1 < p → (2 * y % p) * w % p ≡ 1
    → Same p (tangent p a x y * (2 * y)) (3 * x ^ 2 + a)
tangent_times p a x y w more u =
    let d = 2 * y % p in
    let n = 3 * x ^ 2 + a in
    let i = inverse p d in
    let v : Same p (d * i) 1 = unit_same p d i more (inverse_of_unit p d w (omega arith) u) in
    same_trans (same_mul (same_mod p (n * i)) (same_sym (same_mod p (2 * y))))
    (same_trans (same_from (let e : n * i * d ≡ n * (d * i) = omega arith in e))
    (same_trans (same_times n v) (same_from (let e : n * 1 ≡ n = omega arith in e))))

-- ---- the cases of the addition
pub add_chord : (p a x1 y1 x2 y2 : ℕ) → (x1 ≡ x2 → ⊥)
    → add p a (Affine x1 y1) (Affine x2 y2) ≡ on_line p (chord p x1 y1 x2 y2) x1 y1 x2
unfolding add
add_chord p a x1 y1 x2 y2 n = rw (ne_eqb x1 x2 n) refl

pub add_tangent : (p a x y : ℕ) → ((y + y) % p ≡ 0 → ⊥)
    → add p a (Affine x y) (Affine x y) ≡ on_line p (tangent p a x y) x y x
unfolding add
add_tangent p a x y n = rw (eq-eqb x x refl, ne_eqb ((y + y) % p) 0 n) refl

-- ---- adding a point
-- a difference, scaled
scaled_difference : (p x x' d H X c : ℕ) → 0 < p → Same p (d + x) x' → Same p X (x * c) → Same p (H + X) (x' * c) → Same p H (d * c)
scaled_difference p x x' d H X c pos hd hX h =
    same_cancel (x * c) pos
    (same_trans (same_add (same_refl p H) (same_sym hX)) (same_trans h
    (same_trans (same_mul (same_sym hd) (same_refl p c)) (same_from (let e : (d + x) * c ≡ d * c + x * c = omega arith in e)))))

pub add_stands : (p a X Y Z x2 y2 H R V B C Z3 : ℕ) (P : Point) → 1 < p → x2 < p → y2 < p → V < p → B < p → C < p
    → Same p (H + X) (x2 * (Z * Z)) → Same p (R + Y) (y2 * (Z * Z * Z)) → Same p V (X * (H * H))
    → Same p B (H * H * H + V) → Same p C (Y * (H * H * H)) → Same p Z3 (Z * H)
    → StandFor p X Y Z P
    → StandFor p (line_x p R V B) (line_y p R V C (line_x p R V B)) Z3 (add p a P (Affine x2 y2))
add_stands p a X Y Z x2 y2 H R V B C Z3 P more x2_below y2_below v_below b_below c_below hh hr hv hb hc hz stands = λ w u.
    let pos : 0 < p = omega arith in
    let hz' : Same p Z3 (H * Z) = same_trans hz (same_from (let e : Z * H ≡ H * Z = omega arith in e)) in
    let at = stands (H * w) (factor_is_unit p Z3 Z H w more hz u) in
    let x = at.x in
    let y = at.y in
    let x_below : x < p = at.x_below in
    let y_below : y < p = at.y_below in
    let sX : Same p X (x * (Z * Z)) = record { remainders = at.x_scaled } in
    let sY : Same p Y (y * (Z * Z * Z)) = record { remainders = at.y_scaled } in
    let d = difference p x2 x in
    let n = difference p y2 y in
    let sd : Same p (d + x) x2 = difference_same p x2 x (omega arith) in
    let sn : Same p (n + y) y2 = difference_same p y2 y (omega arith) in
    let sH : Same p H (d * (Z * Z)) = scaled_difference p x x2 d H X (Z * Z) pos sd sX hh in
    let sR : Same p R (n * (Z * Z * Z)) = scaled_difference p y y2 n R Y (Z * Z * Z) pos sn sY hr in
    let ud : d * (Z * Z * (Z * w)) % p ≡ 1 = factor_is_unit p H d (Z * Z) (Z * w) more sH (factor_is_unit p Z3 H Z w more hz' u) in
    let m = chord p x y x2 y2 in
    let sm : Same p (m * d) n = chord_times p x y x2 y2 (Z * Z * (Z * w)) more ud in
    let apart : x ≡ x2 → ⊥ = λ e.
    unit_not_zero p d (Z * Z * (Z * w)) more ud
    (same_trans (same_mod p (x2 + (p - x))) (same_trans (same_from (let q : x2 + (p - x) ≡ 0 + p * 1 = omega arith in q)) (same_more p 0 1))) in
    let slope : Same p R (m * Z3) =
    same_trans sR (same_trans (same_mul (same_sym sm) (same_refl p (Z * Z * Z)))
    (same_trans (same_from (let e : m * d * (Z * Z * Z) ≡ m * (Z * (d * (Z * Z))) = omega arith in e))
    (same_times m (same_trans (same_times Z (same_sym sH)) (same_sym hz))))) in
    let squares : Same p (Z * Z * (H * H)) (Z3 * Z3) =
    same_trans (same_from (let e : Z * Z * (H * H) ≡ Z * H * (Z * H) = omega arith in e)) (same_mul (same_sym hz) (same_sym hz)) in
    let cubes : Same p (Z * Z * Z * (H * H * H)) (Z3 * Z3 * Z3) =
    same_trans (same_from (let e : Z * Z * Z * (H * H * H) ≡ Z * Z * (H * H) * (Z * H) = omega arith in e)) (same_mul squares (same_sym hz)) in
    let sV : Same p V (x * (Z3 * Z3)) =
    same_trans hv (same_trans (same_mul sX (same_refl p (H * H)))
    (same_trans (same_from (let e : x * (Z * Z) * (H * H) ≡ x * (Z * Z * (H * H)) = omega arith in e)) (same_times x squares))) in
    let sB : Same p B (x2 * (Z3 * Z3)) =
    same_trans hb (same_trans (same_add (same_refl p (H * H * H)) hv)
    (same_trans (same_from (let e : H * H * H + X * (H * H) ≡ (H + X) * (H * H) = omega arith in e))
    (same_trans (same_mul hh (same_refl p (H * H)))
    (same_trans (same_from (let e : x2 * (Z * Z) * (H * H) ≡ x2 * (Z * Z * (H * H)) = omega arith in e)) (same_times x2 squares))))) in
    let sC : Same p C (y * (Z3 * Z3 * Z3)) =
    same_trans hc (same_trans (same_mul sY (same_refl p (H * H * H)))
    (same_trans (same_from (let e : y * (Z * Z * Z) * (H * H * H) ≡ y * (Z * Z * Z * (H * H * H)) = omega arith in e)) (same_times y cubes))) in
    let x3 = line_x p m x x2 in
    let X3 = line_x p R V B in
    let sX3 : Same p X3 (x3 * (Z3 * Z3)) =
    line_scaled_x p m R x V x2 B Z3 pos (omega arith) (omega arith) (omega arith) (omega arith) slope sV sB in
    let x3_below : x3 < p = mod-lt _ pos in
    let X3_below : X3 < p = mod-lt _ pos in
    let y3 = line_y p m x y x3 in
    let sY3 : Same p (line_y p R V C X3) (y3 * (Z3 * Z3 * Z3)) =
    line_scaled_y p m R x V y C x3 X3 Z3 pos (omega arith) (omega arith) (omega arith) (omega arith) slope sV sC sX3 in
    record {
      x = x3;
      y = y3;
      is_affine = ap (λ (Q : Point). add p a Q (Affine x2 y2)) at.is_affine ∙ add_chord p a x y x2 y2 apart;
      x_below = x3_below;
      y_below = mod-lt _ pos;
      x_scaled = sX3.remainders;
      y_scaled = sY3.remainders;
    }

-- ---- doubling, where a is -3
-- the slope of the tangent, scaled: 3 (X - Z²) (X + Z²) is 3 X² - 3 Z⁴
pub tangent_scaled : (p X q D M : ℕ) → 0 < p → Same p (D + q) X → Same p M (3 * (D * (X + q))) → Same p (M + 3 * (q * q)) (3 * (X * X))
tangent_scaled p X q D M pos hd hm =
    let a : Same p (D * (X + q) + q * q + X * q) (X * X + X * q) =
    same_trans (same_from (let e : D * (X + q) + q * q + X * q ≡ (D + q) * (X + q) = omega arith in e))
    (same_trans (same_mul hd (same_refl p (X + q))) (same_from (let e : X * (X + q) ≡ X * X + X * q = omega arith in e))) in
    let b : Same p (D * (X + q) + q * q) (X * X) = same_cancel (X * q) pos a in
    same_trans (same_add hm (same_refl p (3 * (q * q))))
    (same_trans (same_from (let e : 3 * (D * (X + q)) + 3 * (q * q) ≡ 3 * (D * (X + q) + q * q) = omega arith in e)) (same_times 3 b))

minus_three_cancels : (p a x q : ℕ) → a + 3 ≡ p → (3 * x ^ 2 + a) * (q * q) + 3 * (q * q) ≡ 3 * (x * q * (x * q)) + p * (q * q)
minus_three_cancels p a x q h = rw (square x, ← h) (omega arith)

pub double_stands : (p a X Y Z M S C Z3 : ℕ) (P : Point) → 1 < p → a + 3 ≡ p → S < p → C < p
    → Same p (M + 3 * (Z * Z * (Z * Z))) (3 * (X * X)) → Same p S (4 * (X * (Y * Y))) → Same p C (8 * (Y * Y * (Y * Y)))
    → Same p Z3 (2 * (Y * Z))
    → StandFor p X Y Z P
    → StandFor p (line_x p M S S) (line_y p M S C (line_x p M S S)) Z3 (add p a P P)
double_stands p a X Y Z M S C Z3 P more minus_three s_below c_below hm hs hc hz stands = λ w u.
    let pos : 0 < p = omega arith in
    let fourth = Z * Z * (Z * Z) in
    let hz' : Same p Z3 (Z * (2 * Y)) = same_trans hz (same_from (let e : 2 * (Y * Z) ≡ Z * (2 * Y) = omega arith in e)) in
    let at = stands (2 * Y * w) (factor_is_unit p Z3 Z (2 * Y) w more hz' u) in
    let x = at.x in
    let y = at.y in
    let x_below : x < p = at.x_below in
    let y_below : y < p = at.y_below in
    let sX : Same p X (x * (Z * Z)) = record { remainders = at.x_scaled } in
    let sY : Same p Y (y * (Z * Z * Z)) = record { remainders = at.y_scaled } in
    let sZ : Same p Z3 (2 * y * fourth) =
    same_trans hz (same_trans (same_times 2 (same_mul sY (same_refl p Z)))
    (same_from (let e : 2 * (y * (Z * Z * Z) * Z) ≡ 2 * y * fourth = omega arith in e))) in
    let sZ' : Same p Z3 (2 * y % p * fourth) = same_trans sZ (same_mul (same_sym (same_mod p (2 * y))) (same_refl p fourth)) in
    let ud : 2 * y % p * (fourth * w) % p ≡ 1 = factor_is_unit p Z3 (2 * y % p) fourth w more sZ' u in
    let m = tangent p a x y in
    let sm : Same p (m * (2 * y)) (3 * x ^ 2 + a) = tangent_times p a x y (fourth * w) more ud in
    let apart : (y + y) % p ≡ 0 → ⊥ = λ e.
    unit_not_zero p (2 * y % p) (fourth * w) more ud
    (same_trans (same_mod p (2 * y)) (record {
      remainders = ap (λ (k : ℕ). k % p) (let q : 2 * y ≡ y + y = omega arith in q) ∙ e
          ∙ sym (mod-eq_of_lt pos);
    })) in
    let sum : Same p ((3 * x ^ 2 + a) * fourth + 3 * fourth) (3 * (X * X)) =
    same_trans (same_from (minus_three_cancels p a x (Z * Z) minus_three))
    (same_trans (same_more p (3 * (x * (Z * Z) * (x * (Z * Z)))) fourth) (same_times 3 (same_mul (same_sym sX) (same_sym sX)))) in
    let sM : Same p M ((3 * x ^ 2 + a) * fourth) = same_cancel (3 * fourth) pos (same_trans hm (same_sym sum)) in
    let slope : Same p M (m * Z3) =
    same_trans sM (same_trans (same_mul (same_sym sm) (same_refl p fourth))
    (same_trans (same_from (let e : m * (2 * y) * fourth ≡ m * (2 * y * fourth) = omega arith in e)) (same_times m (same_sym sZ)))) in
    let sS : Same p S (x * (Z3 * Z3)) =
    same_trans hs (same_trans (same_times 4 (same_mul sX (same_refl p (Y * Y))))
    (same_trans (same_from (let e : 4 * (x * (Z * Z) * (Y * Y)) ≡ x * (2 * (Y * Z) * (2 * (Y * Z))) = omega arith in e))
    (same_times x (same_mul (same_sym hz) (same_sym hz))))) in
    let sC : Same p C (y * (Z3 * Z3 * Z3)) =
    same_trans hc (same_trans (same_from (let e : 8 * (Y * Y * (Y * Y)) ≡ 8 * (Y * Y * Y) * Y = omega arith in e))
    (same_trans (same_times (8 * (Y * Y * Y)) sY)
    (same_trans (same_from (let e : 8 * (Y * Y * Y) * (y * (Z * Z * Z)) ≡ y * (2 * (Y * Z) * (2 * (Y * Z)) * (2 * (Y * Z))) = omega arith in e))
    (same_times y (same_mul (same_mul (same_sym hz) (same_sym hz)) (same_sym hz)))))) in
    let x3 = line_x p m x x in
    let X3 = line_x p M S S in
    let sX3 : Same p X3 (x3 * (Z3 * Z3)) =
    line_scaled_x p m M x S x S Z3 pos (omega arith) (omega arith) (omega arith) (omega arith) slope sS sS in
    let x3_below : x3 < p = mod-lt _ pos in
    let X3_below : X3 < p = mod-lt _ pos in
    let y3 = line_y p m x y x3 in
    let sY3 : Same p (line_y p M S C X3) (y3 * (Z3 * Z3 * Z3)) =
    line_scaled_y p m M x S y C x3 X3 Z3 pos (omega arith) (omega arith) (omega arith) (omega arith) slope sS sC sX3 in
    record {
      x = x3;
      y = y3;
      is_affine = ap (λ (Q : Point). add p a Q Q) at.is_affine ∙ add_tangent p a x y apart;
      x_below = x3_below;
      y_below = mod-lt _ pos;
      x_scaled = sX3.remainders;
      y_scaled = sY3.remainders;
    }
