-- The three curves are curves, and their points: laws of the group at each.
use Rattle.std.proofs.Common.{◌≡◌, ℕ, suc, ◌+◌, ◌-◌, ◌*◌, ◌%◌, ◌^◌, ◌<◌, Bool, true, false, ◌&&◌, ltb, eqb, Option, Some, None, if◌then◌else◌, refl, sym, ◌∙◌, ap, subst, arith, lit<}
use Rattle.std.proofs.Math.Nat.{mod-lt, pow-suc}
use Rattle.std.proofs.lemmas.Bool.{and_parts, ltb-true, lt-ltb, eqb-true, eq-eqb, eqb-false}
use Rattle.std.proofs.lemmas.Nat.{mul-mod_first}
use Rattle.primes.proofs.Orders.{IsGenerated}
use Rattle.ecdsa.specs.declared.Curve.{Curve}
use Rattle.ecdsa.specs.declared.Curve.TheVariants.{P256, P384, P521}
use Rattle.ecdsa.specs.Group.{Point, Infinity, Affine, inverse, add, multiple, On, IsOn, IsCurve}
use Rattle.ecdsa.specs.Curves.{field_prime, coefficient_a, coefficient_b, base_x, base_y, base_point, order_bits, combination}
use Rattle.ecdsa.specs.Ecdsa.{is_on_curve, is_point, valid_key}
use Rattle.ecdsa.proofs.Congruences.{square, cube}
use Rattle.ecdsa.proofs.Inverses.{inverse_of_unit}
use Rattle.ecdsa.proofs.Certificates.{field_generated}
use Rattle.ecdsa.proofs.Generators.{base_x_below, base_y_below, base_on_curve}

-- ---- what isn't 0 modulo p has an inverse (Fermat)
units : (p x : ℕ) → 1 < p → IsGenerated p → (x % p ≡ 0 → ⊥) → x * inverse p x % p ≡ 1
units p x more g n =
    let pos : 0 < p = omega arith in
    let r = x % p in
    let l : r < p = mod-lt x pos in
    let above : 0 < r = omega arith in
    let w = r ^ (p - 2) in
    let s : suc (p - 2) ≡ p - 1 = omega arith in
    let c : r * w ≡ w * r = omega arith in
    inverse_of_unit p x w pos
    (sym (mul-mod_first x w p) ∙ ap (λ (k : ℕ). k % p) (c ∙ sym (pow-suc r (p - 2)) ∙ ap (λ (k : ℕ). r ^ k) s) ∙ g.to_the_last r above l)

above_three : (curve : Curve) → 3 < field_prime curve
unfolding field_prime
above_three P256 = lit< tt
above_three P384 = lit< tt
above_three P521 = lit< tt

discriminant : (curve : Curve)
    → eqb ((4 * (coefficient_a curve * coefficient_a curve * coefficient_a curve) + 27 * (coefficient_b curve * coefficient_b curve)) % field_prime curve) 0 ≡ false
unfolding field_prime coefficient_b
discriminant P256 = refl
discriminant P384 = refl
discriminant P521 = refl

pub is_curve : (curve : Curve) → IsCurve (field_prime curve) (coefficient_a curve) (coefficient_b curve)
is_curve curve =
    let m = above_three curve in
    record {
      more = m;
      units = λ x n. units (field_prime curve) x (omega arith) (field_generated curve) n;
      smooth = eqb-false _ 0 (discriminant curve);
    }

-- ---- points
right_side : (x a b : ℕ) → x ^ 3 + a * x + b ≡ x * x * x + a * x + b
right_side x a b = let c = cube x in rw c refl

on_is : (curve : Curve) (x y : ℕ) → is_point curve (Affine x y) ≡ true → On (field_prime curve) (coefficient_a curve) (coefficient_b curve) x y
unfolding is_point
on_is curve x y h =
    let p = field_prime curve in
    let a = and_parts (ltb x p && ltb y p) (is_on_curve curve x y) h in
    let b = and_parts (ltb x p) (ltb y p) a.0 in
    record {
      x_below = ltb-true x p b.0;
      y_below = ltb-true y p b.1;
      curve = ap (λ (k : ℕ). k % p) (sym (square y)) ∙ eqb-true (y ^ 2 % p) ((x ^ 3 + coefficient_a curve * x + coefficient_b curve) % p) a.1
          ∙ ap (λ (k : ℕ). k % p) (right_side x (coefficient_a curve) (coefficient_b curve));
    }

pub point_on : (curve : Curve) (P : Point) → is_point curve P ≡ true → IsOn (field_prime curve) (coefficient_a curve) (coefficient_b curve) P
unfolding IsOn
point_on curve Infinity h = tt
point_on curve (Affine x y) h = on_is curve x y h

is_from_on : (curve : Curve) (x y : ℕ) → On (field_prime curve) (coefficient_a curve) (coefficient_b curve) x y → is_point curve (Affine x y) ≡ true
unfolding is_point
is_from_on curve x y c =
    let p = field_prime curve in
    let e : y ^ 2 % p ≡ (x ^ 3 + coefficient_a curve * x + coefficient_b curve) % p =
    ap (λ (k : ℕ). k % p) (square y) ∙ c.curve ∙ ap (λ (k : ℕ). k % p) (sym (right_side x (coefficient_a curve) (coefficient_b curve))) in
    rw (lt-ltb x p c.x_below, lt-ltb y p c.y_below, eq-eqb (y ^ 2 % p) ((x ^ 3 + coefficient_a curve * x + coefficient_b curve) % p) e) refl

pub on_point : (curve : Curve) (P : Point) → IsOn (field_prime curve) (coefficient_a curve) (coefficient_b curve) P → is_point curve P ≡ true
unfolding is_point IsOn
on_point curve Infinity h = refl
on_point curve (Affine x y) h = is_from_on curve x y h

pub base_on : (curve : Curve) → IsOn (field_prime curve) (coefficient_a curve) (coefficient_b curve) (base_point curve)
unfolding is_point
base_on curve =
    point_on curve (base_point curve)
    (rw (lt-ltb (base_x curve) (field_prime curve) (base_x_below curve), lt-ltb (base_y curve) (field_prime curve) (base_y_below curve), base_on_curve curve) refl)

-- ---- a public key is a point
if_point : (t : Bool) (P Q : Point) → (if t then Some P else None) ≡ Some Q → (t ≡ true) × (P ≡ Q)
if_point true P Q h = (refl, (let e : Some P ≡ Some Q = h in (cc)))
if_point false P Q h = absurd (let e : ◌≡◌ {A = Option Point} None (Some Q) = h in (cc))

pub valid_on : (curve : Curve) (x y : ℕ) (Q : Point) → valid_key curve x y ≡ Some Q → is_point curve Q ≡ true
unfolding is_point
valid_on curve x y Q h =
    let e = if_point (ltb x (field_prime curve) && ltb y (field_prime curve) && is_on_curve curve x y) (Affine x y) Q h in
    ap (is_point curve) (sym e.1) ∙ e.0

-- ---- at the number p of a field of the code
pub curve_at : (curve : Curve) (p : ℕ) → p ≡ field_prime curve → IsCurve p (p - 3) (coefficient_b curve)
curve_at curve p h = subst (λ (q : ℕ). IsCurve q (q - 3) (coefficient_b curve)) (sym h) (is_curve curve)

pub base_at : (curve : Curve) (p : ℕ) (G : Point) → p ≡ field_prime curve → G ≡ base_point curve → IsOn p (p - 3) (coefficient_b curve) G
base_at curve p G h g =
    subst (λ (q : ℕ). IsOn q (q - 3) (coefficient_b curve) G) (sym h)
    (subst (IsOn (field_prime curve) (coefficient_a curve) (coefficient_b curve)) (sym g) (base_on curve))

pub key_at : (curve : Curve) (p : ℕ) (Q : Point) → p ≡ field_prime curve → is_point curve Q ≡ true → IsOn p (p - 3) (coefficient_b curve) Q
key_at curve p Q h k = subst (λ (q : ℕ). IsOn q (q - 3) (coefficient_b curve) Q) (sym h) (point_on curve Q k)

pub combination_is : (curve : Curve) (p digits j k : ℕ) (G Q : Point) → p ≡ field_prime curve → digits ≡ order_bits curve → G ≡ base_point curve
    → add p (p - 3) (multiple p (p - 3) digits j G) (multiple p (p - 3) digits k Q) ≡ combination curve j k Q
combination_is curve p digits j k G Q hp hd hg = rw (hp, hd, hg) refl
