-- The points on a line, in coordinates that are scaled by a number z: x by z², y by z³ and the slope by z.
use Rattle.std.proofs.Common.{◌≡◌, ℕ, ◌+◌, ◌-◌, ◌*◌, ◌%◌, ◌^◌, ◌<◌, ◌≤◌, arith}
use Rattle.ecdsa.specs.Group.{difference, line_x, line_y}
use Rattle.ecdsa.proofs.Congruences.{Same, same_refl, same_sym, same_trans, same_from, same_mod, same_add, same_mul, same_more, same_cancel, square}

-- what is added to a difference
pub difference_same : (p x y : ℕ) → y ≤ p → Same p (difference p x y + y) x
difference_same p x y l =
    same_trans (same_add (same_mod p (x + (p - y))) (same_refl p y))
    (same_trans (same_from (let e : x + (p - y) + y ≡ x + p * 1 = omega arith in e)) (same_more p x 1))

pub line_x_same : (p m x1 x2 : ℕ) → 0 < p → x1 ≤ p → x2 ≤ p → Same p (line_x p m x1 x2 + x1 + x2) (m * m)
line_x_same p m x1 x2 pos l1 l2 =
    let d = difference p (m ^ 2 % p) x1 in
    let x3 = difference p d x2 in
    same_trans (same_from (let e : x3 + x1 + x2 ≡ x3 + x2 + x1 = omega arith in e))
    (same_trans (same_add (difference_same p d x2 l2) (same_refl p x1))
    (same_trans (difference_same p (m ^ 2 % p) x1 l1) (same_trans (same_mod p (m ^ 2)) (same_from (square m)))))

pub line_y_same : (p m x1 y1 x3 : ℕ) → 0 < p → y1 ≤ p → x3 ≤ p → Same p (line_y p m x1 y1 x3 + y1 + m * x3) (m * x1)
line_y_same p m x1 y1 x3 pos l1 l3 =
    let d = difference p x1 x3 in
    same_trans (same_add (same_trans (difference_same p (m * d % p) y1 l1) (same_mod p (m * d))) (same_refl p (m * x3)))
    (same_trans (same_from (let e : m * d + m * x3 ≡ m * (d + x3) = omega arith in e)) (same_mul (same_refl p m) (difference_same p x1 x3 l3)))

scaled_x : (p m m' x1 x1' x2 x2' x3 x3' z : ℕ) → 0 < p
    → Same p m' (m * z) → Same p x1' (x1 * (z * z)) → Same p x2' (x2 * (z * z))
    → Same p (x3 + x1 + x2) (m * m) → Same p (x3' + x1' + x2') (m' * m')
    → Same p x3' (x3 * (z * z))
scaled_x p m m' x1 x1' x2 x2' x3 x3' z pos hm h1 h2 h h' =
    let q = z * z in
    let a : Same p (x3' + x1' + x2') (x3 * q + (x1 * q + x2 * q)) =
    same_trans h' (same_trans (same_mul hm hm) (same_trans (same_from (let e : m * z * (m * z) ≡ m * m * q = omega arith in e))
    (same_trans (same_mul (same_sym h) (same_refl p q)) (same_from (let e : (x3 + x1 + x2) * q ≡ x3 * q + (x1 * q + x2 * q) = omega arith in e))))) in
    let b : Same p (x3' + (x1 * q + x2 * q)) (x3' + x1' + x2') =
    same_trans (same_from (let e : x3' + (x1 * q + x2 * q) ≡ x3' + x1 * q + x2 * q = omega arith in e))
    (same_add (same_add (same_refl p x3') (same_sym h1)) (same_sym h2)) in
    same_cancel (x1 * q + x2 * q) pos (same_trans b a)

scaled_y : (p m m' x1 x1' y1 y1' x3 x3' y3 y3' z : ℕ) → 0 < p
    → Same p m' (m * z) → Same p x1' (x1 * (z * z)) → Same p y1' (y1 * (z * z * z)) → Same p x3' (x3 * (z * z))
    → Same p (y3 + y1 + m * x3) (m * x1) → Same p (y3' + y1' + m' * x3') (m' * x1')
    → Same p y3' (y3 * (z * z * z))
scaled_y p m m' x1 x1' y1 y1' x3 x3' y3 y3' z pos hm h1 hy h3 h h' =
    let c = z * z * z in
    let k = m * x3 in
    let a : Same p (y3' + y1' + m' * x3') (y3 * c + (y1 * c + k * c)) =
    same_trans h' (same_trans (same_mul hm h1) (same_trans (same_from (let e : m * z * (x1 * (z * z)) ≡ m * x1 * c = omega arith in e))
    (same_trans (same_mul (same_sym h) (same_refl p c)) (same_from (let e : (y3 + y1 + k) * c ≡ y3 * c + (y1 * c + k * c) = omega arith in e))))) in
    let b : Same p (m * z * (x3 * (z * z))) (k * c) = same_from (let e : m * z * (x3 * (z * z)) ≡ m * x3 * c = omega arith in e) in
    let d : Same p (y3' + (y1 * c + k * c)) (y3' + y1' + m' * x3') =
    same_trans (same_from (let e : y3' + (y1 * c + k * c) ≡ y3' + y1 * c + k * c = omega arith in e))
    (same_add (same_add (same_refl p y3') (same_sym hy)) (same_sym (same_trans (same_mul hm h3) b))) in
    same_cancel (y1 * c + k * c) pos (same_trans d a)

-- what is found on the scaled line is what is found on the line, scaled
pub line_scaled_x : (p m m' x1 x1' x2 x2' z : ℕ) → 0 < p → x1 ≤ p → x2 ≤ p → x1' ≤ p → x2' ≤ p
    → Same p m' (m * z) → Same p x1' (x1 * (z * z)) → Same p x2' (x2 * (z * z))
    → Same p (line_x p m' x1' x2') (line_x p m x1 x2 * (z * z))
line_scaled_x p m m' x1 x1' x2 x2' z pos l1 l2 l1' l2' hm h1 h2 =
    scaled_x p m m' x1 x1' x2 x2' (line_x p m x1 x2) (line_x p m' x1' x2') z pos hm h1 h2
    (line_x_same p m x1 x2 pos l1 l2) (line_x_same p m' x1' x2' pos l1' l2')

pub line_scaled_y : (p m m' x1 x1' y1 y1' x3 x3' z : ℕ) → 0 < p → y1 ≤ p → x3 ≤ p → y1' ≤ p → x3' ≤ p
    → Same p m' (m * z) → Same p x1' (x1 * (z * z)) → Same p y1' (y1 * (z * z * z)) → Same p x3' (x3 * (z * z))
    → Same p (line_y p m' x1' y1' x3') (line_y p m x1 y1 x3 * (z * z * z))
line_scaled_y p m m' x1 x1' y1 y1' x3 x3' z pos l1 l3 l1' l3' hm h1 hy h3 =
    scaled_y p m m' x1 x1' y1 y1' x3 x3' (line_y p m x1 y1 x3) (line_y p m' x1' y1' x3') z pos hm h1 hy h3
    (line_y_same p m x1 y1 x3 pos l1 l3) (line_y_same p m' x1' y1' x3' pos l1' l3')
