-- Twice a point by its extended coordinates: the sum with itself, where each coordinate is -4 times as much.
use Rattle.std.proofs.Common.{◌≡◌, ℕ, ◌+◌, ◌*◌, ◌%◌, ◌<◌, refl, sym, ◌∙◌, ap, arith}
use Rattle.std.proofs.Math.Nat.{mod-mod}
use Rattle.ed25519.specs.Field.{p, plus, minus, times}
use Rattle.ed25519.specs.Curve.{d}
use Rattle.ed25519.specs.Extended.{Coordinates, extended_add, extended_double}
use Rattle.ed25519.proofs.Congruence.{less, by_multiples, both_plus, both_times, of_plus, of_times, of_minus}
use Rattle.ed25519.proofs.Sums.{IsUnit, Represents, unit_product, unit_along, unit_two, e_is, h_is}
use Rattle.ed25519.proofs.Units.{without_unit}
use Rattle.ed25519.proofs.Complete.{OnCurve}

-- the equation of the curve, of the coordinates
curve_scaled : (X Y Z T x y : ℕ) → X % p ≡ (x * Z) % p → Y % p ≡ (y * Z) % p → T % p ≡ (x * y * Z) % p → OnCurve x y
    → (Y * Y) % p ≡ (X * X + Z * Z + d * (T * T)) % p
unfolding OnCurve
curve_scaled X Y Z T x y hx hy ht c =
    let zz : ℕ = Z * Z in
    let f : y * Z * (y * Z) ≡ y * y * zz = omega arith in
    let g : (1 + x * x + d * (x * x) * (y * y)) * zz ≡ x * Z * (x * Z) + zz + d * (x * y * Z * (x * y * Z)) = omega arith in
    both_times Y Y (y * Z) (y * Z) hy hy ∙ ap (λ z. z % p) f ∙ both_times (y * y) zz (1 + x * x + d * (x * x) * (y * y)) zz c refl ∙ ap (λ z. z % p) g
    ∙ sym (both_plus _ _ _ _ (both_plus (X * X) zz (x * Z * (x * Z)) zz (both_times X X (x * Z) (x * Z) hx hx) refl)
    (both_times d (T * T) d (x * y * Z * (x * y * Z)) refl (both_times T T (x * y * Z) (x * y * Z) ht ht)))

-- E, F, G and H of a double, as sums and products
double_e : (X Y : ℕ) → minus (plus (times X X) (times Y Y)) (times (plus X Y) (plus X Y)) % p ≡ (X * X + Y * Y + less * ((X + Y) * (X + Y))) % p
double_e X Y =
    of_minus _ _
    ∙ both_plus _ _ _ _ (of_plus _ _ ∙ both_plus _ _ _ _ (of_times X X) (of_times Y Y))
    (both_times less _ less _ refl (of_times _ _ ∙ both_times _ _ _ _ (of_plus X Y) (of_plus X Y)))

double_h : (X Y : ℕ) → plus (times X X) (times Y Y) % p ≡ (X * X + Y * Y) % p
double_h X Y = of_plus _ _ ∙ both_plus _ _ _ _ (of_times X X) (of_times Y Y)

double_g : (X Y : ℕ) → minus (times X X) (times Y Y) % p ≡ (X * X + less * (Y * Y)) % p
double_g X Y = of_minus _ _ ∙ both_plus _ _ _ _ (of_times X X) (both_times less _ less _ refl (of_times Y Y))

double_f : (X Y Z : ℕ) → plus (plus (times Z Z) (times Z Z)) (minus (times X X) (times Y Y)) % p ≡ (Z * Z + Z * Z + (X * X + less * (Y * Y))) % p
double_f X Y Z = of_plus _ _ ∙ both_plus _ _ _ _ (of_plus _ _ ∙ both_plus _ _ _ _ (of_times Z Z) (of_times Z Z)) (double_g X Y)

-- those of the sum with itself are -2 or 2 times as much
sum_e : (X Y E : ℕ) → E % p ≡ (X * X + Y * Y + less * ((X + Y) * (X + Y))) % p
    → minus (times (plus Y X) (plus Y X)) (times (minus Y X) (minus Y X)) % p ≡ (2 * less * E) % p
sum_e X Y E h =
    let m : ℕ = X * X + Y * Y + 2 * (X * Y) in
    let e : (2 * less * (X * X + Y * Y + less * ((X + Y) * (X + Y)))) % p ≡ (2 * (X * Y + X * Y)) % p =
    by_multiples _ _ (2 * m) (2 * less * m + 2 * (X * X + Y * Y)) (omega arith) in
    e_is X Y X Y (2 * less) E (sym (both_times (2 * less) E (2 * less) _ refl h ∙ e))

sum_h : (X Y H : ℕ) → H % p ≡ (X * X + Y * Y) % p
    → plus (times (plus Y X) (plus Y X)) (times (minus Y X) (minus Y X)) % p ≡ (2 * H) % p
sum_h X Y H h =
    let f : 2 * (X * X + Y * Y) ≡ 2 * (Y * Y + X * X) = omega arith in
    h_is X Y X Y 2 H (sym (both_times 2 H 2 (X * X + Y * Y) refl h ∙ ap (λ z. z % p) f))

sum_f : (X Y Z T F : ℕ) → (Y * Y) % p ≡ (X * X + Z * Z + d * (T * T)) % p → F % p ≡ (Z * Z + Z * Z + (X * X + less * (Y * Y))) % p
    → minus ((Z * 2 * Z) % p) ((T * 2 * d * T) % p) % p ≡ (2 * F) % p
sum_f X Y Z T F c h =
    let a : (2 * F) % p ≡ (2 * (Z * Z + Z * Z + (X * X + less * (X * X + Z * Z + d * (T * T))))) % p =
    both_times 2 F 2 _ refl (h ∙ both_plus (Z * Z + Z * Z) _ (Z * Z + Z * Z) _ refl
    (both_plus (X * X) _ (X * X) _ refl (both_times less (Y * Y) less _ refl c))) in
    let e : (Z * 2 * Z + less * (T * 2 * d * T)) % p ≡ (2 * (Z * Z + Z * Z + (X * X + less * (X * X + Z * Z + d * (T * T))))) % p =
    by_multiples _ _ (2 * (X * X) + 2 * (Z * Z)) 0 (omega arith) in
    of_minus _ _ ∙ both_plus _ _ _ _ (mod-mod (Z * 2 * Z) p) (both_times less _ less _ refl (mod-mod (T * 2 * d * T) p)) ∙ e ∙ sym a

sum_g : (X Y Z T G : ℕ) → (Y * Y) % p ≡ (X * X + Z * Z + d * (T * T)) % p → G % p ≡ (X * X + less * (Y * Y)) % p
    → plus ((Z * 2 * Z) % p) ((T * 2 * d * T) % p) % p ≡ (2 * less * G) % p
sum_g X Y Z T G c h =
    let a : (2 * less * G) % p ≡ (2 * less * (X * X + less * (X * X + Z * Z + d * (T * T)))) % p =
    both_times (2 * less) G (2 * less) _ refl (h ∙ both_plus (X * X) _ (X * X) _ refl (both_times less (Y * Y) less _ refl c)) in
    let s : ℕ = X * X + Z * Z + d * (T * T) in
    let e : (2 * less * (X * X + less * (X * X + Z * Z + d * (T * T)))) % p ≡ (Z * 2 * Z + T * 2 * d * T) % p =
    by_multiples _ _ (2 * s) (2 * less * s + 2 * (X * X)) (omega arith) in
    of_plus _ _ ∙ both_plus _ _ _ _ (mod-mod (Z * 2 * Z) p) (mod-mod (T * 2 * d * T) p) ∙ sym (a ∙ e)

-- a product of two of them
scaled_product : (a b u v A B : ℕ) → A % p ≡ (u * a) % p → B % p ≡ (v * b) % p → times A B % p ≡ (u * v * times a b) % p
scaled_product a b u v A B h g =
    let f : u * a * (v * b) ≡ u * v * (a * b) = omega arith in
    of_times A B ∙ both_times A B (u * a) (v * b) h g ∙ ap (λ z. z % p) f ∙ both_times (u * v) (a * b) (u * v) (times a b) refl (sym (of_times a b))

-- less * 4
factor : ℕ
factor = 2 * less * 2

two_less : 2 * (2 * less) ≡ factor
unfolding factor
two_less = omega arith

less_unit : IsUnit less
less_unit = record { inverse = less; is_one = by_multiples (less * less) 1 1 less (omega arith) }

factor_unit : IsUnit factor
unfolding factor
factor_unit = unit_product (2 * less) 2 (unit_product 2 less unit_two less_unit) unit_two

-- what represents a point, all of it a unit times as much, does so without the unit
without : (u x X Z X' Z' : ℕ) → IsUnit u → X' % p ≡ (u * X) % p → Z' % p ≡ (u * Z) % p → X' % p ≡ (x * Z') % p → X % p ≡ (x * Z) % p
without u x X Z X' Z' i hX hZ h =
    let f : X * u ≡ u * X = omega arith in
    let g : x * (u * Z) ≡ x * Z * u = omega arith in
    without_unit X (x * Z) u i (ap (λ z. z % p) f ∙ sym hX ∙ h ∙ both_times x Z' x (u * Z) refl hZ ∙ ap (λ z. z % p) g)

unit_part : (u Z Z' : ℕ) → Z' % p ≡ (u * Z) % p → IsUnit Z' → IsUnit Z
unit_part u Z Z' h i = record {
  inverse = u * i.inverse;
  is_one =
      let f : Z * (u * i.inverse) ≡ u * Z * i.inverse = omega arith in
      ap (λ z. z % p) f ∙ both_times (u * Z) i.inverse Z' i.inverse (sym h) refl ∙ i.is_one;
}

represents_without : (u : ℕ) (C D : Coordinates) (x y : ℕ) → IsUnit u → C.X % p ≡ (u * D.X) % p → C.Y % p ≡ (u * D.Y) % p
    → C.Z % p ≡ (u * D.Z) % p → C.T % p ≡ (u * D.T) % p → Represents C x y → Represents D x y
represents_without u C D x y i hX hY hZ hT r = record {
  X_is = without u x D.X D.Z C.X C.Z i hX hZ r.X_is;
  Y_is = without u y D.Y D.Z C.Y C.Z i hY hZ r.Y_is;
  T_is = without u (x * y) D.T D.Z C.T C.Z i hT hZ r.T_is;
  Z_unit = unit_part u D.Z C.Z hZ r.Z_unit;
  x_below = r.x_below;
  y_below = r.y_below;
}

pub double_represents : (C : Coordinates) (x y x3 y3 : ℕ) → Represents C x y → OnCurve x y → Represents (extended_add C C) x3 y3
    → Represents (extended_double C) x3 y3
unfolding extended_add extended_double factor
double_represents C x y x3 y3 r c s =
    let X : ℕ = C.X in
    let Y : ℕ = C.Y in
    let Z : ℕ = C.Z in
    let T : ℕ = C.T in
    let k = curve_scaled X Y Z T x y r.X_is r.Y_is r.T_is c in
    let e = sum_e X Y _ (double_e X Y) in
    let f = sum_f X Y Z T _ k (double_f X Y Z) in
    let g = sum_g X Y Z T _ k (double_g X Y) in
    let h = sum_h X Y _ (double_h X Y) in
    let t = ap (λ u. (u * times (plus (plus (times Z Z) (times Z Z)) (minus (times X X) (times Y Y))) (minus (times X X) (times Y Y))) % p) two_less in
    represents_without factor _ _ x3 y3 factor_unit
    (scaled_product _ _ (2 * less) 2 _ _ e f) (scaled_product _ _ (2 * less) 2 _ _ g h)
    (scaled_product _ _ 2 (2 * less) _ _ f g ∙ t) (scaled_product _ _ (2 * less) 2 _ _ e h) s
