-- [n]G is the point at infinity: [n - 1]G is -G, which is computed in Jacobian coordinates.
use Rattle.std.proofs.Common.{◌≡◌, ℕ, zero, suc, ◌+◌, ◌-◌, ◌*◌, ◌/◌, ◌%◌, ◌<◌, ◌≤◌, Bool, true, false, cond, ◌&&◌, eqb, Option, Some, None, refl, sym, ◌∙◌, ap, arith, lit<}
use Rattle.std.proofs.Math.Nat.{mod-lt}
use Rattle.std.proofs.lemmas.Bool.{and_parts, eqb-true, eq-eqb, ne_eqb}
use Rattle.ecdsa.specs.declared.Curve.{Curve}
use Rattle.ecdsa.specs.declared.Curve.TheVariants.{P256, P384, P521}
use Rattle.ecdsa.specs.Group.{Point, Infinity, Affine, difference, line_x, line_y, add, next, multiple}
use Rattle.ecdsa.specs.Curves.{field_prime, order, base_x, base_y, base_point, times}
use Rattle.ecdsa.specs.Jacobian.{StandFor}
use Rattle.ecdsa.proofs.Scaled.{scaled_slope, doubled, added_scaled, by_square, by_cube, coordinates_are, next_none, next_first, first_stands}
use Rattle.ecdsa.proofs.Multiples.{multiple_suc}

-- ---- Jacobian coordinates as numbers
record Scaled : Type 0 where
  X : ℕ
  Y : ℕ
  Z : ℕ

-- twice a point, and a point more
at_slope : ℕ → ℕ → ℕ → ℕ → ℕ → ℕ → Scaled
at_slope p m v c b z = let x = line_x p m v b in record { X = x; Y = line_y p m v c x; Z = z }

slope_of : ℕ → ℕ → ℕ → ℕ
slope_of p x q = let product = difference p x q * ((x + q) % p) % p in (2 * product % p + product) % p

twice : ℕ → Scaled → Scaled
twice p s =
    let yy = s.Y * s.Y % p in
    let v = 2 * (2 * (s.X * yy % p) % p) % p in
    at_slope p (slope_of p s.X (s.Z * s.Z % p)) v (2 * (2 * (2 * (yy * yy % p) % p) % p) % p) v (2 * (s.Y * s.Z % p) % p)

more_by : ℕ → Scaled → ℕ → ℕ → ℕ → ℕ → Scaled
more_by p s h r v cube = at_slope p r v (s.Y * cube % p) ((cube + v) % p) (s.Z * h % p)

more : ℕ → Scaled → ℕ → ℕ → Scaled
more p s x y =
    let q = s.Z * s.Z % p in
    let h = difference p (x * q % p) s.X in
    let square = h * h % p in
    more_by p s h (difference p (y * (q * s.Z % p) % p) s.Y) (s.X * square % p) (square * h % p)

step : ℕ → Bool → Option Scaled → ℕ → ℕ → Option Scaled
step p b None x y = cond b (Some (record { X = x; Y = y; Z = 1 })) None
step p b (Some s) x y = Some (cond b (more p (twice p s) x y) (twice p s))

scaled : ℕ → ℕ → ℕ → ℕ → ℕ → Option Scaled
scaled p zero k x y = None
scaled p (suc digits) k x y = step p (eqb (k % 2) 1) (scaled p digits (k / 2) x y) x y

-- ---- they represent the multiples
record Stands (p : ℕ) (s : Scaled) (P : Point) : Type 0 where
  x_below : s.X < p
  y_below : s.Y < p
  for : StandFor p s.X s.Y s.Z P

OptionStands : ℕ → Option Scaled → Point → Type 0
OptionStands p None P = P ≡ Infinity
OptionStands p (Some s) P = Stands p s P

twice_stands : (p : ℕ) (s : Scaled) (P : Point) → 3 < p → Stands p s P → Stands p (twice p s) (add p (p - 3) P P)
unfolding twice at_slope slope_of
twice_stands p s P l h =
    let pos : 0 < p = omega arith in
    let q = s.Z * s.Z % p in
    let within : q ≤ p = let b = mod-lt (s.Z * s.Z) pos in omega arith in
    let product = difference p s.X q * ((s.X + q) % p) % p in
    let m = (2 * product % p + product) % p in
    let slope : (m + 3 * (q * q)) % p ≡ 3 * (s.X * s.X) % p =
    scaled_slope p s.X q (difference p s.X q) ((s.X + q) % p) product (2 * product % p) m pos within refl refl refl refl refl in
    let yy = s.Y * s.Y % p in
    let xyy = s.X * yy % p in
    let v = 2 * (2 * xyy % p) % p in
    let yyyy = yy * yy % p in
    let c = 2 * (2 * (2 * yyyy % p) % p) % p in
    let yz = s.Y * s.Z % p in
    let x = line_x p m v v in
    record {
      x_below = mod-lt _ pos;
      y_below = mod-lt _ pos;
      for = doubled p s.X s.Y s.Z q m yy xyy (2 * xyy % p) v yyyy (2 * yyyy % p) (2 * (2 * yyyy % p) % p) c yz (2 * yz % p) x (line_y p m v c x) l
          refl slope refl refl refl refl refl refl refl refl refl refl refl refl P h.for;
    }

more_stands : (p : ℕ) (s : Scaled) (x y : ℕ) (P : Point) → 3 < p → x < p → y < p → Stands p s P
    → Stands p (more p s x y) (add p (p - 3) P (Affine x y))
unfolding more more_by at_slope
more_stands p s x y P l lx ly h =
    let pos : 0 < p = omega arith in
    let q = s.Z * s.Z % p in
    let cubed = q * s.Z % p in
    let u = x * q % p in
    let d = difference p u s.X in
    let t = y * cubed % p in
    let r = difference p t s.Y in
    let square = d * d % p in
    let cube = square * d % p in
    let v = s.X * square % p in
    let c = s.Y * cube % p in
    let b = (cube + v) % p in
    let x3 = line_x p r v b in
    record {
      x_below = mod-lt _ pos;
      y_below = mod-lt _ pos;
      for = added_scaled p s.X s.Y s.Z u d t r square cube v c b (s.Z * d % p) x3 (line_y p r v c x3) l h.x_below h.y_below
          refl refl refl refl refl refl refl refl refl refl P x y lx ly (by_square p x q u s.Z refl refl) (by_cube p y q cubed t s.Z refl refl refl) h.for;
    }

step_stands : (p : ℕ) (b : Bool) (o : Option Scaled) (x y : ℕ) (P : Point) → 3 < p → x < p → y < p → OptionStands p o P
    → OptionStands p (step p b o x y) (next p (p - 3) b P (Affine x y))
unfolding step OptionStands
step_stands p true None x y P l lx ly h = record {
  x_below = lx;
  y_below = ly;
  for = first_stands p x y 1 (next p (p - 3) true P (Affine x y)) refl lx ly (next_first p (p - 3) true P (Affine x y) refl h);
}
step_stands p false None x y P l lx ly h = next_none p (p - 3) false P (Affine x y) refl h
step_stands p true (Some s) x y P l lx ly h = more_stands p (twice p s) x y (add p (p - 3) P P) l lx ly (twice_stands p s P l h)
step_stands p false (Some s) x y P l lx ly h = twice_stands p s P l h

scaled_stands : (p digits k x y : ℕ) → 3 < p → x < p → y < p → OptionStands p (scaled p digits k x y) (multiple p (p - 3) digits k (Affine x y))
unfolding scaled OptionStands multiple
scaled_stands p zero k x y l lx ly = refl
scaled_stands p (suc digits) k x y l lx ly =
    step_stands p (eqb (k % 2) 1) (scaled p digits (k / 2) x y) x y (multiple p (p - 3) digits (k / 2) (Affine x y)) l lx ly
    (scaled_stands p digits (k / 2) x y l lx ly)

-- ---- the coordinates by an inverse of Z
is_at : ℕ → Option Scaled → ℕ → ℕ → ℕ → Bool
is_at p None w x y = false
is_at p (Some s) w x y =
    eqb (s.Z * w % p) 1 && (eqb (s.X * (w * w % p) % p) x && eqb (s.Y * (w * w % p * w % p) % p) y)

point_at : (p : ℕ) (o : Option Scaled) (w x y : ℕ) (P : Point) → 3 < p → OptionStands p o P → is_at p o w x y ≡ true → P ≡ Affine x y
unfolding is_at OptionStands
point_at p None w x y P l h t = absurd (cc)
point_at p (Some s) w x y P l h t =
    let a = and_parts (eqb (s.Z * w % p) 1) (eqb (s.X * (w * w % p) % p) x && eqb (s.Y * (w * w % p * w % p) % p) y) t in
    let b = and_parts (eqb (s.X * (w * w % p) % p) x) (eqb (s.Y * (w * w % p * w % p) % p) y) a.1 in
    let one = eqb-true (s.Z * w % p) 1 a.0 in
    let ex = eqb-true (s.X * (w * w % p) % p) x b.0 in
    let ey = eqb-true (s.Y * (w * w % p * w % p) % p) y b.1 in
    let square = w * w % p in
    sym (coordinates_are p s.X s.Y s.Z w (s.Z * w % p) square (square * w % p) x y (omega arith) refl one refl refl (sym ex) (sym ey) P h.for)

-- ---- an odd multiple from the even one before it
odd_multiple : (p a digits k : ℕ) (P : Point) → k % 2 ≡ 0 → multiple p a (suc digits) (suc k) P ≡ add p a (multiple p a (suc digits) k P) P
odd_multiple p a digits k P h =
    let o : suc k % 2 ≡ 1 = omega arith in
    let n : k % 2 ≡ 1 → ⊥ = λ e. (omega arith) in
    let d : suc k / 2 ≡ k / 2 = omega arith in
    let M = multiple p a digits (k / 2) P in
    multiple_suc p a digits (suc k) P
    ∙ ap (λ (z : ℕ). next p a (eqb (suc k % 2) 1) (multiple p a digits z P) P) d
    ∙ ap (λ (b : Bool). next p a b M P) (eq-eqb (suc k % 2) 1 o)
    ∙ ap (λ (Q : Point). add p a Q P) (sym (multiple_suc p a digits k P ∙ ap (λ (b : Bool). next p a b M P) (ne_eqb (k % 2) 1 n)))

opposite : (p a x y z : ℕ) → (y + z) % p ≡ 0 → add p a (Affine x y) (Affine x z) ≡ Infinity
unfolding add
opposite p a x y z h = rw (eq-eqb x x refl, eq-eqb ((y + z) % p) 0 h) refl

infinity_after : (p digits k w x y : ℕ) → 3 < p → x < p → y < p → k % 2 ≡ 0 → (p - y + y) % p ≡ 0
    → is_at p (scaled p (suc digits) k x y) w x (p - y) ≡ true → multiple p (p - 3) (suc digits) (suc k) (Affine x y) ≡ Infinity
infinity_after p digits k w x y l lx ly h e t =
    odd_multiple p (p - 3) digits k (Affine x y) h
    ∙ ap (λ (Q : Point). add p (p - 3) Q (Affine x y))
    (point_at p (scaled p (suc digits) k x y) w x (p - y) (multiple p (p - 3) (suc digits) k (Affine x y)) l (scaled_stands p (suc digits) k x y l lx ly) t)
    ∙ opposite p (p - 3) x (p - y) y e

-- ---- the three curves: inverses of Z
abbrev z_p256 : ℕ
z_p256 = 0xE3DD9353_FFBC227C_18AC2437_CA15F4A7_EE6092A5_7823DD63_DFF0A746_5DC63EA7

abbrev z_p384 : ℕ
z_p384 = 0xE1195617_080E4DA2_EC66FE89_1C6CC78B_F4B5B2C0_F3740729_1FB098DB_D4A0C211_08F04D59_252D2D41_A9587C2C_2417E18E

abbrev z_p521 : ℕ
z_p521 = 0x00000192_F644889F_B060D7CE_1BAF1954_18E00696_B6662820_EDECD061_D1704C9C_0C245C3A_63EBD493_AEBDC6D1_74859617_28C38EF4_060BF373_6A64EB2F_3436A2F6_BFB45D0F

pub order_is_right : (curve : Curve) → times curve (order curve) (base_point curve) ≡ Infinity
unfolding field_prime order base_x base_y scaled step twice more more_by at_slope slope_of is_at
order_is_right P256 =
    infinity_after (field_prime P256) 255 (order P256 - 1) z_p256 (base_x P256) (base_y P256) (lit< tt) (lit< tt) (lit< tt) refl refl refl
order_is_right P384 =
    infinity_after (field_prime P384) 383 (order P384 - 1) z_p384 (base_x P384) (base_y P384) (lit< tt) (lit< tt) (lit< tt) refl refl refl
order_is_right P521 =
    infinity_after (field_prime P521) 520 (order P521 - 1) z_p521 (base_x P521) (base_y P521) (lit< tt) (lit< tt) (lit< tt) refl refl refl
