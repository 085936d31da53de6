-- The steps in Jacobian coordinates, as the code comes to them.
use Rattle.std.proofs.Common.{◌≡◌, ℕ, ◌+◌, ◌-◌, ◌*◌, ◌%◌, ◌<◌, ◌≤◌, Bool, true, false, sym, ◌∙◌, ap, arith}
use Rattle.std.proofs.Math.Nat.{mod-lt}
use Rattle.ecdsa.specs.Group.{Point, Infinity, Affine, difference, line_x, line_y, add, next}
use Rattle.ecdsa.specs.Jacobian.{StandFor}
use Rattle.ecdsa.specs.declared.field.Element.{Element}
use Rattle.ecdsa.specs.Elements.{number}
use Rattle.ecdsa.proofs.Congruences.{Same, same_refl, same_sym, same_trans, same_from, same_mod, same_add, same_mul, same_times, same_below}
use Rattle.ecdsa.proofs.Lines.{difference_same}
use Rattle.ecdsa.proofs.Sums.{sum_first}
use Rattle.ecdsa.proofs.Steps.{unit_same, tangent_scaled, double_stands, add_stands}

-- a number is below p
pub number_below : {N : ℕ} (p : ℕ) (e : Element N) → 0 < p → number p e < p
unfolding number
number_below p e pos = mod-lt _ pos

-- what a remainder is the same as
pub remainder_same : (p a b : ℕ) → a ≡ b % p → Same p a b
remainder_same p a b h = same_trans (same_from h) (same_mod p b)

pub below : (p a b : ℕ) → 0 < p → a ≡ b % p → a < p
below p a b pos h = rw h (mod-lt b pos)

pub scaled_slope : (p x q d s product twice r : ℕ) → 0 < p → q ≤ p → d ≡ difference p x q → s ≡ (x + q) % p → product ≡ d * s % p
    → twice ≡ 2 * product % p → r ≡ (twice + product) % p → (r + 3 * (q * q)) % p ≡ 3 * (x * x) % p
scaled_slope p x q d s product twice r pos l hd hs hp ht hr =
    let sd : Same p (d + q) x = same_trans (same_add (same_from hd) (same_refl p q)) (difference_same p x q l) in
    let sp : Same p product (d * (x + q)) = same_trans (remainder_same p product (d * s) hp) (same_times d (remainder_same p s (x + q) hs)) in
    let sr : Same p r (3 * (d * (x + q))) =
    same_trans (remainder_same p r (twice + product) hr)
    (same_trans (same_add (remainder_same p twice (2 * product) ht) (same_refl p product))
    (same_trans (same_from (let e : 2 * product + product ≡ 3 * product = omega arith in e)) (same_times 3 sp))) in
    (tangent_scaled p x q d r pos sd sr).remainders

pub doubled : (p X Y Z q m yy xyy s2 s yyyy c2 c4 c yz z3 x3 y3 : ℕ) → 3 < p
    → q ≡ Z * Z % p → (m + 3 * (q * q)) % p ≡ 3 * (X * X) % p → yy ≡ Y * Y % p → xyy ≡ X * yy % p
    → s2 ≡ 2 * xyy % p → s ≡ 2 * s2 % p → yyyy ≡ yy * yy % p → c2 ≡ 2 * yyyy % p → c4 ≡ 2 * c2 % p → c ≡ 2 * c4 % p
    → yz ≡ Y * Z % p → z3 ≡ 2 * yz % p → x3 ≡ line_x p m s s → y3 ≡ line_y p m s c x3
    → (P : Point) → StandFor p X Y Z P → StandFor p x3 y3 z3 (add p (p - 3) P P)
doubled p X Y Z q m yy xyy s2 s yyyy c2 c4 c yz z3 x3 y3 more hq hm hyy hxyy hs2 hs hyyyy hc2 hc4 hc hyz hz hx hy = λ P stands.
    let pos : 0 < p = omega arith in
    let sq = remainder_same p q (Z * Z) hq in
    let syy = remainder_same p yy (Y * Y) hyy in
    let slope : Same p (m + 3 * (Z * Z * (Z * Z))) (3 * (X * X)) =
    same_trans (same_add (same_refl p m) (same_times 3 (same_sym (same_mul sq sq)))) (record { remainders = hm }) in
    let sxyy : Same p xyy (X * (Y * Y)) = same_trans (remainder_same p xyy (X * yy) hxyy) (same_times X syy) in
    let ss : Same p s (4 * (X * (Y * Y))) =
    same_trans (remainder_same p s (2 * s2) hs) (same_trans (same_times 2 (remainder_same p s2 (2 * xyy) hs2))
    (same_trans (same_from (let e : 2 * (2 * xyy) ≡ 4 * xyy = omega arith in e)) (same_times 4 sxyy))) in
    let syyyy : Same p yyyy (Y * Y * (Y * Y)) = same_trans (remainder_same p yyyy (yy * yy) hyyyy) (same_mul syy syy) in
    let sc : Same p c (8 * (Y * Y * (Y * Y))) =
    same_trans (remainder_same p c (2 * c4) hc) (same_trans (same_times 2 (same_trans (remainder_same p c4 (2 * c2) hc4) (same_times 2
    (remainder_same p c2 (2 * yyyy) hc2))))
    (same_trans (same_from (let e : 2 * (2 * (2 * yyyy)) ≡ 8 * yyyy = omega arith in e)) (same_times 8 syyyy))) in
    let sz : Same p z3 (2 * (Y * Z)) = same_trans (remainder_same p z3 (2 * yz) hz) (same_times 2 (remainder_same p yz (Y * Z) hyz)) in
    rw (hy, hx) (double_stands p (p - 3) X Y Z m s c z3 P (omega arith) (omega arith) (below p s (2 * s2) pos hs) (below p c
    (2 * c4) pos hc) slope ss sc sz stands)

pub added_scaled : (p X Y Z u h t r square cube v c b z3 x3 y3 : ℕ) → 3 < p → X < p → Y < p
    → h ≡ difference p u X → r ≡ difference p t Y
    → square ≡ h * h % p → cube ≡ square * h % p → v ≡ X * square % p → c ≡ Y * cube % p → b ≡ (cube + v) % p
    → x3 ≡ line_x p r v b → y3 ≡ line_y p r v c x3 → z3 ≡ Z * h % p
    → (P : Point) (x2 y2 : ℕ) → x2 < p → y2 < p → u % p ≡ x2 * (Z * Z) % p → t % p ≡ y2 * (Z * Z * Z) % p
    → StandFor p X Y Z P → StandFor p x3 y3 z3 (add p (p - 3) P (Affine x2 y2))
added_scaled p X Y Z u h t r square cube v c b z3 x3 y3 more lX lY hh hr hsquare hcube hv hc hb hx hy hz = λ P x2 y2 l2 m2 hu ht stands.
    let pos : 0 < p = omega arith in
    let sh : Same p (h + X) (x2 * (Z * Z)) =
    same_trans (same_add (same_from hh) (same_refl p X)) (same_trans (difference_same p u X (omega arith)) (record { remainders = hu })) in
    let sr : Same p (r + Y) (y2 * (Z * Z * Z)) =
    same_trans (same_add (same_from hr) (same_refl p Y)) (same_trans (difference_same p t Y (omega arith)) (record { remainders = ht })) in
    let ssquare = remainder_same p square (h * h) hsquare in
    let scube : Same p cube (h * h * h) = same_trans (remainder_same p cube (square * h) hcube) (same_mul ssquare (same_refl p h)) in
    let sv : Same p v (X * (h * h)) = same_trans (remainder_same p v (X * square) hv) (same_times X ssquare) in
    let sc : Same p c (Y * (h * h * h)) = same_trans (remainder_same p c (Y * cube) hc) (same_times Y scube) in
    let sb : Same p b (h * h * h + v) = same_trans (remainder_same p b (cube + v) hb) (same_add scube (same_refl p v)) in
    rw (hy, hx) (add_stands p (p - 3) X Y Z x2 y2 h r v b c z3 P (omega arith) l2 m2 (below p v (X * square) pos hv) (below p b
    (cube + v) pos hb) (below p c (Y * cube) pos hc)
    sh sr sv sb sc (remainder_same p z3 (Z * h) hz) stands)

-- x times Z² and y times Z³
pub by_square : (p x q u Z : ℕ) → q ≡ Z * Z % p → u ≡ x * q % p → u % p ≡ x * (Z * Z) % p
by_square p x q u Z hq hu = (same_trans (remainder_same p u (x * q) hu) (same_times x (remainder_same p q (Z * Z) hq))).remainders

pub by_cube : (p y q cubed t Z : ℕ) → q ≡ Z * Z % p → cubed ≡ q * Z % p → t ≡ y * cubed % p → t % p ≡ y * (Z * Z * Z) % p
by_cube p y q cubed t Z hq hcubed ht =
    let sc : Same p cubed (Z * Z * Z) =
    same_trans (remainder_same p cubed (q * Z) hcubed) (same_mul (remainder_same p q (Z * Z) hq) (same_refl p Z)) in
    (same_trans (remainder_same p t (y * cubed) ht) (same_times y sc)).remainders

pub coordinates_are : (p X Y Z i unit square cube x y : ℕ) → 1 < p → unit ≡ Z * i % p → unit ≡ 1 → square ≡ i * i % p → cube ≡ square * i % p
    → x ≡ X * square % p → y ≡ Y * cube % p → (P : Point) → StandFor p X Y Z P → Affine x y ≡ P
coordinates_are p X Y Z i unit square cube x y more hu one hs hc hx hy = λ P stands.
    let pos : 0 < p = omega arith in
    let w : Z * i % p ≡ 1 = sym hu ∙ one in
    let at = stands i w in
    let sw : Same p (Z * i) 1 = unit_same p Z i more w in
    let ss = remainder_same p square (i * i) hs in
    let sc : Same p cube (i * i * i) = same_trans (remainder_same p cube (square * i) hc) (same_mul ss (same_refl p i)) in
    let sX : Same p X (at.x * (Z * Z)) = record { remainders = at.x_scaled } in
    let sY : Same p Y (at.y * (Z * Z * Z)) = record { remainders = at.y_scaled } in
    let sx : Same p x at.x =
    same_trans (remainder_same p x (X * square) hx) (same_trans (same_mul sX ss)
    (same_trans (same_from (let e : at.x * (Z * Z) * (i * i) ≡ at.x * (Z * i * (Z * i)) = omega arith in e))
    (same_trans (same_times at.x (same_mul sw sw)) (same_from (let e : at.x * (1 * 1) ≡ at.x = omega arith in e))))) in
    let sy : Same p y at.y =
    same_trans (remainder_same p y (Y * cube) hy) (same_trans (same_mul sY sc)
    (same_trans (same_from (let e : at.y * (Z * Z * Z) * (i * i * i) ≡ at.y * (Z * i * (Z * i) * (Z * i)) = omega arith in e))
    (same_trans (same_times at.y (same_mul (same_mul sw sw) sw)) (same_from (let e : at.y * (1 * 1 * 1) ≡ at.y = omega arith in e))))) in
    ap (λ (z : ℕ). Affine z y) (same_below (below p x (X * square) pos hx) at.x_below sx)
    ∙ ap (λ (z : ℕ). Affine at.x z) (same_below (below p y (Y * cube) pos hy) at.y_below sy) ∙ sym at.is_affine

-- ---- the first steps
pub next_none : (p a : ℕ) (b : Bool) (P Q : Point) → b ≡ false → P ≡ Infinity → next p a b P Q ≡ Infinity
next_none p a b P Q h k = rw (h, k) (sym (sum_first p a Infinity))

pub next_first : (p a : ℕ) (b : Bool) (P Q : Point) → b ≡ true → P ≡ Infinity → next p a b P Q ≡ Q
next_first p a b P Q h k = rw (h, k) (ap (λ (R : Point). add p a R Q) (sym (sum_first p a Infinity)) ∙ sym (sum_first p a Q))

pub first_stands : (p x y z : ℕ) (P : Point) → z ≡ 1 → x < p → y < p → P ≡ Affine x y → StandFor p x y z P
first_stands p x y z P h lx ly e = λ w u. record {
  x = x;
  y = y;
  is_affine = e;
  x_below = lx;
  y_below = ly;
  x_scaled = let q : x ≡ x * (1 * 1) = omega arith in ap (λ (k : ℕ). k % p) q ∙ ap (λ (k : ℕ). x * (k * k) % p) (sym h);
  y_scaled = let q : y ≡ y * (1 * 1 * 1) = omega arith in ap (λ (k : ℕ). k % p) q ∙ ap (λ (k : ℕ). y * (k * k * k) % p) (sym h);
}
