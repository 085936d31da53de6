-- The extended coordinates of a sum are those of the sum of the pairs.
use Rattle.std.proofs.Common.{◌≡◌, ℕ, ◌+◌, ◌-◌, ◌*◌, ◌%◌, ◌^◌, ◌<◌, refl, sym, ◌∙◌, ap, arith}
use Rattle.std.proofs.Math.Nat.{mod-mod}
use Rattle.ed25519.specs.Field.{p, plus, minus, times}
use Rattle.ed25519.specs.Curve.{d}
use Rattle.ed25519.specs.Extended.{Coordinates, extended_add}
use Rattle.ed25519.proofs.Congruence.{less, by_multiples, both_plus, both_times, of_plus, of_times, of_minus}

-- a number that has an inverse
pub record IsUnit (z : ℕ) : Type 0 where
  pub inverse : ℕ
  pub is_one : (z * inverse) % p ≡ 1 % p

-- the point has the coordinates x and y
pub record Represents (P : Coordinates) (x y : ℕ) : Type 0 where
  pub X_is : P.X % p ≡ (x * P.Z) % p
  pub Y_is : P.Y % p ≡ (y * P.Z) % p
  pub T_is : P.T % p ≡ (x * y * P.Z) % p
  pub Z_unit : IsUnit P.Z
  pub x_below : x < p
  pub y_below : y < p

pub unit_product : (a b : ℕ) → IsUnit a → IsUnit b → IsUnit (a * b)
unit_product a b u v = record {
  inverse = u.inverse * v.inverse;
  is_one =
      let e : a * b * (u.inverse * v.inverse) ≡ a * u.inverse * (b * v.inverse) = omega arith in
      ap (λ z. z % p) e ∙ both_times (a * u.inverse) (b * v.inverse) 1 1 u.is_one v.is_one;
}

pub unit_along : (a b : ℕ) → a % p ≡ b % p → IsUnit a → IsUnit b
unit_along a b h u = record {
  inverse = u.inverse;
  is_one = both_times b u.inverse a u.inverse (sym h) refl ∙ u.is_one;
}

pub unit_two : IsUnit 2
unfolding p
unit_two = record { inverse = 2 ^ 254 - 9; is_one = refl }

-- ---- the parts of a sum, of the coordinates
-- E, from the products a and b
cross : (X Y X' Y' : ℕ) → ((Y + X) * (Y' + X') + less * ((Y + less * X) * (Y' + less * X'))) % p ≡ (2 * (X * Y' + X' * Y)) % p
cross X Y X' Y' =
    by_multiples _ _ (X * Y' + X' * Y + less * X * X') (less * (X * Y' + X' * Y) + Y * Y' + (less * less + 1) * X * X') (omega arith)

-- H
straight : (X Y X' Y' : ℕ) → ((Y + X) * (Y' + X') + (Y + less * X) * (Y' + less * X')) % p ≡ (2 * (Y * Y' + X * X')) % p
straight X Y X' Y' =
    by_multiples _ _ (X * X') (X * Y' + X' * Y + less * X * X') (omega arith)

-- two products in proportion, by what the coordinates represent
pub scaled_cross : (X Y Z X' Y' Z' x y x' y' : ℕ) → X % p ≡ (x * Z) % p → Y % p ≡ (y * Z) % p → X' % p ≡ (x' * Z') % p → Y' % p ≡ (y' * Z') % p
    → (2 * (X * Y' + X' * Y)) % p ≡ (2 * (Z * Z') * (x * y' + x' * y)) % p
scaled_cross X Y Z X' Y' Z' x y x' y' hx hy hx' hy' =
    let f : 2 * (x * Z * (y' * Z') + x' * Z' * (y * Z)) ≡ 2 * (Z * Z') * (x * y' + x' * y) = omega arith in
    both_times 2 (X * Y' + X' * Y) 2 (x * Z * (y' * Z') + x' * Z' * (y * Z)) refl
    (both_plus (X * Y') (X' * Y) _ _ (both_times X Y' (x * Z) (y' * Z') hx hy') (both_times X' Y (x' * Z') (y * Z) hx' hy))
    ∙ ap (λ z. z % p) f

pub scaled_straight : (X Y Z X' Y' Z' x y x' y' : ℕ) → X % p ≡ (x * Z) % p → Y % p ≡ (y * Z) % p → X' % p ≡ (x' * Z') % p → Y' % p ≡ (y' * Z') % p
    → (2 * (Y * Y' + X * X')) % p ≡ (2 * (Z * Z') * (y * y' + x * x')) % p
scaled_straight X Y Z X' Y' Z' x y x' y' hx hy hx' hy' =
    let f : 2 * (y * Z * (y' * Z') + x * Z * (x' * Z')) ≡ 2 * (Z * Z') * (y * y' + x * x') = omega arith in
    both_times 2 (Y * Y' + X * X') 2 (y * Z * (y' * Z') + x * Z * (x' * Z')) refl
    (both_plus (Y * Y') (X * X') _ _ (both_times Y Y' (y * Z) (y' * Z') hy hy') (both_times X X' (x * Z) (x' * Z') hx hx'))
    ∙ ap (λ z. z % p) f

pub scaled_c : (T Z T' Z' x y x' y' e : ℕ) → T % p ≡ (x * y * Z) % p → T' % p ≡ (x' * y' * Z') % p
    → (T * 2 * e * T') % p ≡ (2 * (Z * Z') * (e * x * x' * y * y')) % p
scaled_c T Z T' Z' x y x' y' e h h' =
    let f : x * y * Z * 2 * e * (x' * y' * Z') ≡ 2 * (Z * Z') * (e * x * x' * y * y') = omega arith in
    both_times (T * 2 * e) T' (x * y * Z * 2 * e) (x' * y' * Z')
    (both_times (T * 2) e (x * y * Z * 2) e (both_times T 2 (x * y * Z) 2 h refl) refl) h'
    ∙ ap (λ z. z % p) f

-- E, F, G and H are w-fold what the pairs have
pub e_is : (X Y X' Y' w s : ℕ) → (2 * (X * Y' + X' * Y)) % p ≡ (w * s) % p
    → minus (times (plus Y X) (plus Y' X')) (times (minus Y X) (minus Y' X')) % p ≡ (w * s) % p
e_is X Y X' Y' w s h =
    let a : times (minus Y X) (minus Y' X') % p ≡ ((Y + less * X) * (Y' + less * X')) % p =
    of_times (minus Y X) (minus Y' X') ∙ both_times _ _ _ _ (of_minus Y X) (of_minus Y' X') in
    let b : times (plus Y X) (plus Y' X') % p ≡ ((Y + X) * (Y' + X')) % p =
    of_times (plus Y X) (plus Y' X') ∙ both_times _ _ _ _ (of_plus Y X) (of_plus Y' X') in
    of_minus _ _ ∙ both_plus _ _ _ _ b (both_times less _ less _ refl a) ∙ cross X Y X' Y' ∙ h

pub h_is : (X Y X' Y' w t : ℕ) → (2 * (Y * Y' + X * X')) % p ≡ (w * t) % p
    → plus (times (plus Y X) (plus Y' X')) (times (minus Y X) (minus Y' X')) % p ≡ (w * t) % p
h_is X Y X' Y' w t h =
    let a : times (minus Y X) (minus Y' X') % p ≡ ((Y + less * X) * (Y' + less * X')) % p =
    of_times (minus Y X) (minus Y' X') ∙ both_times _ _ _ _ (of_minus Y X) (of_minus Y' X') in
    let b : times (plus Y X) (plus Y' X') % p ≡ ((Y + X) * (Y' + X')) % p =
    of_times (plus Y X) (plus Y' X') ∙ both_times _ _ _ _ (of_plus Y X) (of_plus Y' X') in
    of_plus _ _ ∙ both_plus _ _ _ _ b a ∙ straight X Y X' Y' ∙ h

pub f_is : (Z Z' c e : ℕ) → c % p ≡ (2 * (Z * Z') * e) % p → minus ((Z * 2 * Z') % p) (c % p) % p ≡ (2 * (Z * Z') * (1 + less * e)) % p
f_is Z Z' c e h =
    let f : Z * 2 * Z' + less * (2 * (Z * Z') * e) ≡ 2 * (Z * Z') * (1 + less * e) = omega arith in
    of_minus _ _ ∙ both_plus _ _ _ _ (mod-mod (Z * 2 * Z') p) (both_times less _ less _ refl (mod-mod c p ∙ h)) ∙ ap (λ z. z % p) f

pub g_is : (Z Z' c e : ℕ) → c % p ≡ (2 * (Z * Z') * e) % p → plus ((Z * 2 * Z') % p) (c % p) % p ≡ (2 * (Z * Z') * (1 + e)) % p
g_is Z Z' c e h =
    let f : Z * 2 * Z' + 2 * (Z * Z') * e ≡ 2 * (Z * Z') * (1 + e) = omega arith in
    of_plus _ _ ∙ both_plus _ _ _ _ (mod-mod (Z * 2 * Z') p) (mod-mod c p ∙ h) ∙ ap (λ z. z % p) f

-- the coordinates of the sum
first_is : (E F G w s u v x : ℕ) → E % p ≡ (w * s) % p → F % p ≡ (w * u) % p → G % p ≡ (w * v) % p → (x * v) % p ≡ s % p
    → times E F % p ≡ (x * times F G) % p
first_is E F G w s u v x hE hF hG hx =
    let f : w * (x * v) * (w * u) ≡ x * (w * u * (w * v)) = omega arith in
    of_times E F ∙ both_times _ _ _ _ (hE ∙ both_times w s w (x * v) refl (sym hx)) hF ∙ ap (λ z. z % p) f
    ∙ both_times x (w * u * (w * v)) x (times F G) refl (sym (of_times F G ∙ both_times _ _ _ _ hF hG))

second_is : (F G H w t u v y : ℕ) → H % p ≡ (w * t) % p → F % p ≡ (w * u) % p → G % p ≡ (w * v) % p → (y * u) % p ≡ t % p
    → times G H % p ≡ (y * times F G) % p
second_is F G H w t u v y hH hF hG hy =
    let f : w * v * (w * (y * u)) ≡ y * (w * u * (w * v)) = omega arith in
    of_times G H ∙ both_times _ _ _ _ hG (hH ∙ both_times w t w (y * u) refl (sym hy)) ∙ ap (λ z. z % p) f
    ∙ both_times y (w * u * (w * v)) y (times F G) refl (sym (of_times F G ∙ both_times _ _ _ _ hF hG))

third_is : (E F G H w s t u v x y : ℕ) → E % p ≡ (w * s) % p → F % p ≡ (w * u) % p → G % p ≡ (w * v) % p → H % p ≡ (w * t) % p
    → (x * v) % p ≡ s % p → (y * u) % p ≡ t % p → times E H % p ≡ (x * y * times F G) % p
third_is E F G H w s t u v x y hE hF hG hH hx hy =
    let f : w * (x * v) * (w * (y * u)) ≡ x * y * (w * u * (w * v)) = omega arith in
    of_times E H ∙ both_times _ _ _ _ (hE ∙ both_times w s w (x * v) refl (sym hx)) (hH ∙ both_times w t w (y * u) refl (sym hy)) ∙ ap (λ z. z % p) f
    ∙ both_times (x * y) (w * u * (w * v)) (x * y) (times F G) refl (sym (of_times F G ∙ both_times _ _ _ _ hF hG))

unit_is : (F G w u v : ℕ) → F % p ≡ (w * u) % p → G % p ≡ (w * v) % p → IsUnit w → IsUnit u → IsUnit v → IsUnit (times F G)
unit_is F G w u v hF hG iw iu iv =
    unit_along (w * u * (w * v)) (times F G) (sym (of_times F G ∙ both_times _ _ _ _ hF hG))
    (unit_product (w * u) (w * v) (unit_product w u iw iu) (unit_product w v iw iv))

pub sum_represents : (P Q : Coordinates) (x y x' y' e x3 y3 : ℕ) → Represents P x y → Represents Q x' y' → e ≡ d * x * x' * y * y'
    → (x3 * (1 + e)) % p ≡ (x * y' + x' * y) % p → (y3 * (1 + less * e)) % p ≡ (y * y' + x * x') % p
    → IsUnit (1 + e) → IsUnit (1 + less * e) → x3 < p → y3 < p → Represents (extended_add P Q) x3 y3
unfolding extended_add
sum_represents P Q x y x' y' e x3 y3 r q he hx hy iv iu lx ly =
    let w : ℕ = 2 * (P.Z * Q.Z) in
    let hE = e_is P.X P.Y Q.X Q.Y w (x * y' + x' * y) (scaled_cross P.X P.Y P.Z Q.X Q.Y Q.Z x y x' y' r.X_is r.Y_is q.X_is q.Y_is) in
    let hH = h_is P.X P.Y Q.X Q.Y w (y * y' + x * x') (scaled_straight P.X P.Y P.Z Q.X Q.Y Q.Z x y x' y' r.X_is r.Y_is q.X_is q.Y_is) in
    let hC : (P.T * 2 * d * Q.T) % p ≡ (w * e) % p = rw he (scaled_c P.T P.Z Q.T Q.Z x y x' y' d r.T_is q.T_is) in
    let hF = f_is P.Z Q.Z (P.T * 2 * d * Q.T) e hC in
    let hG = g_is P.Z Q.Z (P.T * 2 * d * Q.T) e hC in
    record {
      X_is = first_is _ _ _ w _ _ _ x3 hE hF hG hx;
      Y_is = second_is _ _ _ w _ _ _ y3 hH hF hG hy;
      T_is = third_is _ _ _ _ w _ _ _ _ x3 y3 hE hF hG hH hx hy;
      Z_unit = unit_is _ _ w _ _ hF hG (unit_product 2 (P.Z * Q.Z) unit_two (unit_product P.Z Q.Z r.Z_unit q.Z_unit)) iu iv;
      x_below = lx;
      y_below = ly;
    }
