-- Public keys.
use Rattle.std.proofs.Common.{◌≡◌, ℕ, ◌+◌, ◌-◌, ◌*◌, ◌%◌, ◌^◌, ◌<◌, Bool, true, false, ◌&&◌, ltb, Some, None, add-mul, refl, sym, ◌∙◌, ap, arith}
use Rattle.std.proofs.Math.Nat.{mod-eq_of_lt}
use Rattle.std.proofs.lemmas.Bool.{lt-ltb, and_left, and_right}
use Rattle.ecdsa.specs.declared.Curve.{Curve}
use Rattle.ecdsa.specs.Curves.{field_prime}
use Rattle.ecdsa.specs.Ecdsa.{is_on_curve, valid_key}
use Rattle.ecdsa.specs.Group.{Affine, difference}
use Rattle.ecdsa.proofs.Congruences.{Same, same_refl, same_sym, same_trans, same_from, same_add, same_mul, same_more, same_cancel, cube}
use Rattle.ecdsa.proofs.Lines.{difference_same}
use Rattle.ecdsa.proofs.Scaled.{remainder_same, below}

-- p' is p, and the coordinates are below it
pub generator_is : (p p' gx gy bx by x y : ℕ) → p' ≡ p → gx < p → gy < p → gx ≡ bx → gy ≡ by → x ≡ gx % p' → y ≡ gy % p' → Affine x y ≡ Affine bx by
generator_is p p' gx gy bx by x y e lx ly hx hy kx ky =
    let a : x ≡ bx = kx ∙ ap (λ (z : ℕ). gx % z) e ∙ mod-eq_of_lt lx ∙ hx in
    let b : y ≡ by = ky ∙ ap (λ (z : ℕ). gy % z) e ∙ mod-eq_of_lt ly ∙ hy in
    ap (λ (z : ℕ). Affine z y) a ∙ ap (λ (z : ℕ). Affine bx z) b

pub right_side_is : (p x b square cube' twice triple d b' r : ℕ) → 3 < p → square ≡ x * x % p → cube' ≡ square * x % p → twice ≡ 2 * x % p
    → triple ≡ (twice + x) % p → d ≡ difference p cube' triple → b' ≡ b % p → r ≡ (d + b') % p → r ≡ (x ^ 3 + (p - 3) * x + b) % p
right_side_is p x b square cube' twice triple d b' r more hs hc ht h3 hd hb hr =
    let pos : 0 < p = omega arith in
    let l : triple < p = below p triple (twice + x) pos h3 in
    let sc : Same p cube' (x ^ 3) =
    same_trans (remainder_same p cube' (square * x) hc) (same_trans (same_mul (remainder_same p square (x * x) hs) (same_refl p x)) (same_from
    (sym (cube x)))) in
    let s3 : Same p triple (3 * x) =
    same_trans (remainder_same p triple (twice + x) h3) (same_trans (same_add (remainder_same p twice (2 * x) ht) (same_refl p x))
    (same_from (let e : 2 * x + x ≡ 3 * x = omega arith in e))) in
    let total : x ^ 3 + (p - 3) * x + 3 * x ≡ x ^ 3 + p * x =
    let e : (p - 3) + 3 ≡ p = omega arith in
    let f : ((p - 3) + 3) * x ≡ p * x = ap (λ (z : ℕ). z * x) e in
    let h : ((p - 3) + 3) * x ≡ (p - 3) * x + 3 * x = add-mul (p - 3) 3 x in
    omega (arith, f, h) in
    let sd : Same p d (x ^ 3 + (p - 3) * x) =
    same_cancel (3 * x) pos
    (same_trans (same_add (same_from hd) (same_sym s3)) (same_trans (difference_same p cube' triple (omega arith))
    (same_trans sc (same_sym (same_trans (same_from total) (same_more p (x ^ 3) x)))))) in
    hr ∙ (same_add sd (remainder_same p b' b hb)).remainders

-- ---- which keys are valid
pub no_x : (curve : Curve) (p x y : ℕ) → p ≡ field_prime curve → ltb x p ≡ false → valid_key curve x y ≡ None
no_x curve p x y h f = let g : ltb x (field_prime curve) ≡ false = rw h at f in rw g refl

pub no_y : (curve : Curve) (p x y : ℕ) → p ≡ field_prime curve → ltb y p ≡ false → valid_key curve x y ≡ None
no_y curve p x y h f =
    let g : ltb y (field_prime curve) ≡ false = rw h at f in
    rw (and_left (ltb x (field_prime curve) && ltb y (field_prime curve)) (is_on_curve curve x y) (and_right (ltb x (field_prime curve)) (ltb y
    (field_prime curve)) g)) refl

pub no_point : (curve : Curve) (x x' y y' : ℕ) (b : Bool) → x' ≡ x → y' ≡ y → b ≡ is_on_curve curve x' y' → b ≡ false → valid_key curve x y ≡ None
no_point curve x x' y y' b hx hy h f =
    let g : is_on_curve curve x y ≡ false = rw (hx, hy) at (sym h ∙ f) in
    rw (and_right (ltb x (field_prime curve) && ltb y (field_prime curve)) (is_on_curve curve x y) g) refl

pub point_is : (curve : Curve) (p x x' y y' : ℕ) (b : Bool) → p ≡ field_prime curve → x < p → y < p → x' ≡ x → y' ≡ y
    → b ≡ is_on_curve curve x' y' → b ≡ true → valid_key curve x y ≡ Some (Affine x' y')
point_is curve p x x' y y' b e lx ly hx hy h t =
    let g : is_on_curve curve x y ≡ true = rw (hx, hy) at (sym h ∙ t) in
    let kx : ltb x (field_prime curve) ≡ true = rw e at (lt-ltb x p lx) in
    let ky : ltb y (field_prime curve) ≡ true = rw e at (lt-ltb y p ly) in
    rw (kx, ky, g, hx, hy) refl
