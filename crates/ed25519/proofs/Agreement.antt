-- Coordinates of the points of the curve, and that the operations on them are those on the points.
use Rattle.std.proofs.Common.{◌≡◌, ◌≢◌, ℕ, zero, suc, ◌+◌, ◌-◌, ◌*◌, ◌/◌, ◌%◌, ◌^◌, ◌<◌, ◌&&◌, Bool, true, false, cond, eqb, ltb, List, refl, sym, ◌∙◌, ap, arith, Option, Some, None, subst}
use Rattle.std.proofs.lemmas.Bool.{eqb-true, eqb-false, eq-eqb, ltb-true}
use Rattle.std.proofs.Math.Nat.{mod-mod, zero-mod}
use Rattle.modular.specs.Numbers.{little_endian}
use Rattle.ed25519.specs.Field.{p, plus, minus, times, power, inverse}
use Rattle.ed25519.specs.Curve.{Point, B, d, add, neutral, next_multiple, multiple, is_same_point, candidate_root, root_by, with_sign, root_of_minus_1, recover_x, point_with, decode_point}
use Rattle.ed25519.specs.Extended.{Coordinates, extended, extended_add, extended_double, extended_next, extended_multiple, is_same_extended}
use Rattle.ed25519.proofs.Residues.{below, p_twice}
use Rattle.ed25519.proofs.Roots.{with_sign-none, square_is}
use Rattle.ed25519.proofs.Congruence.{less, p_is, by_multiples, both_plus, both_times, of_plus, of_times, of_minus, small}
use Rattle.ed25519.proofs.Sums.{IsUnit, Represents, unit_product, sum_represents}
use Rattle.ed25519.proofs.Units.{unit_of, inverse_times, root_squared, cancel_with}
use Rattle.ed25519.proofs.Doubles.{double_represents}
use Rattle.ed25519.proofs.Complete.{OnCurve, first_denominator, second_denominator, sum_on_curve}

-- the coordinates represent the point, which is on the curve
pub record Shows (C : Coordinates) (P : Point) : Type 0 where
  pub represents : Represents C P.x P.y
  pub on_curve : OnCurve P.x P.y

-- ---- sums
fraction : (n v w : ℕ) → v % p ≡ w % p → w % p ≢ 0 → (times n (inverse v) * w) % p ≡ n % p
fraction n v w h z =
    let t = p_twice in
    let one : 1 % p ≡ 1 = small 1 (omega arith) in
    let i : (v * inverse v) % p ≡ 1 % p = inverse_times v (λ e. z (sym h ∙ e)) ∙ sym one in
    let f : n * inverse v * v ≡ n * (v * inverse v) = omega arith in
    let o : n * 1 ≡ n = omega arith in
    both_times (times n (inverse v)) w (n * inverse v) v (of_times n (inverse v)) (sym h) ∙ ap (λ y. y % p) f
    ∙ both_times n (v * inverse v) n 1 refl i ∙ ap (λ y. y % p) o

times_below : (x y : ℕ) → times x y < p
unfolding times
times_below x y = below (x * y)

-- the denominators of a sum
pub denominator_1 : (e : ℕ) → plus 1 (e % p) % p ≡ (1 + e) % p
denominator_1 e = of_plus 1 (e % p) ∙ both_plus 1 (e % p) 1 e refl (mod-mod e p)

pub denominator_2 : (e : ℕ) → minus 1 (e % p) % p ≡ (1 + less * e) % p
denominator_2 e = of_minus 1 (e % p) ∙ both_plus 1 (less * (e % p)) 1 (less * e) refl (both_times less (e % p) less e refl (mod-mod e p))

-- the coordinates of a sum times the denominators are the numerators
pub sum_parts : (P Q : Point) (e : ℕ) → OnCurve P.x P.y → OnCurve Q.x Q.y → e ≡ d * P.x * Q.x * P.y * Q.y
    → ((((add P Q).x * (1 + e)) % p) ≡ (P.x * Q.y + Q.x * P.y) % p) × ((((add P Q).y * (1 + less * e)) % p) ≡ (P.y * Q.y + P.x * Q.x) % p)
unfolding add
sum_parts P Q e h k he =
    let v : plus 1 ((d * P.x * Q.x * P.y * Q.y) % p) % p ≡ (1 + e) % p = rw he (denominator_1 (d * P.x * Q.x * P.y * Q.y)) in
    let u : minus 1 ((d * P.x * Q.x * P.y * Q.y) % p) % p ≡ (1 + less * e) % p = rw he (denominator_2 (d * P.x * Q.x * P.y * Q.y)) in (
      fraction (P.x * Q.y + Q.x * P.y) _ (1 + e) v (first_denominator P.x P.y Q.x Q.y e h k he),
      fraction (P.y * Q.y + P.x * Q.x) _ (1 + less * e) u (second_denominator P.x P.y Q.x Q.y e h k he),
    )

pub sum_on : (P Q : Point) → OnCurve P.x P.y → OnCurve Q.x Q.y → OnCurve (add P Q).x (add P Q).y
sum_on P Q h k =
    let e : ℕ = d * P.x * Q.x * P.y * Q.y in
    let parts = sum_parts P Q e h k refl in
    sum_on_curve P.x P.y Q.x Q.y e (add P Q).x (add P Q).y h k refl parts.0 parts.1

sum_below : (P Q : Point) → ((add P Q).x < p) × ((add P Q).y < p)
unfolding add
sum_below P Q = (times_below _ _, times_below _ _)

pub sum_shown : (C E : Coordinates) (P Q : Point) → Shows C P → Shows E Q → Shows (extended_add C E) (add P Q)
sum_shown C E P Q s t =
    let e : ℕ = d * P.x * Q.x * P.y * Q.y in
    let parts = sum_parts P Q e s.on_curve t.on_curve refl in
    let b = sum_below P Q in
    record {
      represents = sum_represents C E P.x P.y Q.x Q.y e (add P Q).x (add P Q).y s.represents t.represents refl parts.0 parts.1
          (unit_of (1 + e) (first_denominator P.x P.y Q.x Q.y e s.on_curve t.on_curve refl))
          (unit_of (1 + less * e) (second_denominator P.x P.y Q.x Q.y e s.on_curve t.on_curve refl)) b.0 b.1;
      on_curve = sum_on P Q s.on_curve t.on_curve;
    }

pub double_shown : (C : Coordinates) (P : Point) → Shows C P → Shows (extended_double C) (add P P)
double_shown C P s =
    let sum = sum_shown C C P P s s in
    record { represents = double_represents C P.x P.y (add P P).x (add P P).y s.represents s.on_curve sum.represents; on_curve = sum.on_curve }

-- ---- multiples
next_shown : (C E : Coordinates) (P Q : Point) (odd : Bool) → Shows C P → Shows E Q → Shows (extended_next C E odd) (next_multiple P Q odd)
unfolding extended_next next_multiple
next_shown C E P Q true s t = sum_shown (extended_double C) E (add P P) Q (double_shown C P s) t
next_shown C E P Q false s t = double_shown C P s

one_below : 1 < p
one_below = let t = p_twice in omega arith

neutral_shown : Shows (record { X = 0; Y = 1; Z = 1; T = 0 }) neutral
unfolding neutral OnCurve d
neutral_shown = record {
  represents = record {
    X_is = refl;
    Y_is = refl;
    T_is = refl;
    Z_unit = record { inverse = 1; is_one = refl };
    x_below = let t = p_twice in omega arith;
    y_below = one_below;
  };
  on_curve = refl;
}

pub multiple_shown : (digits k : ℕ) (C : Coordinates) (P : Point) → Shows C P → Shows (extended_multiple digits k C) (multiple digits k P)
unfolding extended_multiple multiple
multiple_shown zero k C P s = neutral_shown
multiple_shown (suc digits) k C P s =
    next_shown (extended_multiple digits (k / 2) C) C (multiple digits (k / 2) P) P (eqb (k % 2) 1) (multiple_shown digits (k / 2) C P s) s

-- ---- the same point
cancelled : (x x' z z' : ℕ) → IsUnit z → IsUnit z' → x < p → x' < p → (x * z * z') % p ≡ (x' * z' * z) % p → x ≡ x'
cancelled x x' z z' u u' l l' h =
    let i = unit_product z z' u u' in
    let f : x * z * z' * i.inverse ≡ x * (z * z' * i.inverse) = omega arith in
    let g : x' * z' * z * i.inverse ≡ x' * (z * z' * i.inverse) = omega arith in
    let a : (x * z * z' * i.inverse) % p ≡ (x * 1) % p = ap (λ y. y % p) f ∙ both_times x (z * z' * i.inverse) x 1 refl i.is_one in
    let b : (x' * z' * z * i.inverse) % p ≡ (x' * 1) % p = ap (λ y. y % p) g ∙ both_times x' (z * z' * i.inverse) x' 1 refl i.is_one in
    let e : (x * 1) % p ≡ (x' * 1) % p = sym a ∙ both_times (x * z * z') i.inverse (x' * z' * z) i.inverse h refl ∙ b in
    let o : x * 1 ≡ x = omega arith in
    let o' : x' * 1 ≡ x' = omega arith in
    sym (small x l) ∙ ap (λ y. y % p) (sym o) ∙ e ∙ ap (λ y. y % p) o' ∙ small x' l'

same_test : (a b : Bool) → (a ≡ true → b ≡ true) → (b ≡ true → a ≡ true) → a ≡ b
same_test true b f g = sym (f refl)
same_test false true f g = g refl
same_test false false f g = refl

coordinate_test : (X X' Z Z' x x' : ℕ) → X % p ≡ (x * Z) % p → X' % p ≡ (x' * Z') % p → IsUnit Z → IsUnit Z' → x < p → x' < p
    → eqb (times X Z') (times X' Z) ≡ eqb x x'
unfolding times
coordinate_test X X' Z Z' x x' h h' u u' l l' =
    let a : (X * Z') % p ≡ (x * Z * Z') % p = both_times X Z' (x * Z) Z' h refl in
    let b : (X' * Z) % p ≡ (x' * Z' * Z) % p = both_times X' Z (x' * Z') Z h' refl in
    same_test _ _
    (λ t. eq-eqb x x' (cancelled x x' Z Z' u u' l l' (sym a ∙ eqb-true ((X * Z') % p) ((X' * Z) % p) t ∙ b)))
    (λ t. eq-eqb ((X * Z') % p) ((X' * Z) % p)
    (let e : x ≡ x' = eqb-true x x' t in
    let f : x * Z * Z' ≡ x' * Z' * Z = ap (λ y. y * Z * Z') e ∙ (let m : x' * Z * Z' ≡ x' * Z' * Z = omega arith in m) in
    a ∙ ap (λ y. y % p) f ∙ sym b))

pub same_is : (C E : Coordinates) (P Q : Point) → Shows C P → Shows E Q → is_same_extended C E ≡ is_same_point P Q
unfolding is_same_extended is_same_point
same_is C E P Q s t =
    let r = s.represents in
    let q = t.represents in
    rw (
      coordinate_test C.X E.X C.Z E.Z P.x Q.x r.X_is q.X_is r.Z_unit q.Z_unit r.x_below q.x_below,
      coordinate_test C.Y E.Y C.Z E.Z P.y Q.y r.Y_is q.Y_is r.Z_unit q.Z_unit r.y_below q.y_below,
    )
    refl

-- ---- decoding
pub point_shown : (P : Point) → P.x < p → P.y < p → OnCurve P.x P.y → Shows (extended P) P
unfolding extended times
point_shown P l k h =
    let e : P.x * 1 ≡ P.x = omega arith in
    let f : P.y * 1 ≡ P.y = omega arith in
    let g : P.x * P.y * 1 ≡ P.x * P.y = omega arith in
    record {
      represents = record {
        X_is = ap (λ z. z % p) (sym e);
        Y_is = ap (λ z. z % p) (sym f);
        T_is = mod-mod (P.x * P.y) p ∙ ap (λ z. z % p) (sym g);
        Z_unit = record { inverse = 1; is_one = refl };
        x_below = l;
        y_below = k;
      };
      on_curve = h;
    }

x_of_base : 15112221349535400772501151409588531511454012693041857206046113283949847762202 < p
x_of_base = let t = p_twice in omega arith

y_of_base : 46316835694926478169428394003475163141307993866256225615783033603165251855960 < p
y_of_base = let t = p_twice in omega arith

base_on : OnCurve 15112221349535400772501151409588531511454012693041857206046113283949847762202 46316835694926478169428394003475163141307993866256225615783033603165251855960
unfolding OnCurve p d
base_on = refl

pub base_shown : Shows (extended B) B
unfolding B
base_shown = point_shown (record {
  x = 15112221349535400772501151409588531511454012693041857206046113283949847762202;
  y = 46316835694926478169428394003475163141307993866256225615783033603165251855960;
}) x_of_base y_of_base base_on

by_tests : (s t : Bool) (x y r : ℕ) → x < p → y < p → cond s (Some x) (cond t (Some y) None) ≡ Some r → r < p
by_tests true t x y r l m h = let e : x ≡ r = cc in rw (← e) l
by_tests false true x y r l m h = let e : y ≡ r = cc in rw (← e) m
by_tests false false x y r l m h = absurd (cc)

root_below : (u v x r : ℕ) → x < p → root_by u v x ≡ Some r → r < p
unfolding root_by times
root_below u v x r l h = by_tests (eqb ((v * x ^ 2) % p) u) (eqb ((v * x ^ 2) % p) (minus 0 u)) x ((x * root_of_minus_1) % p) r l (below
    (x * root_of_minus_1)) h

by_sign : (z o t : Bool) (r x s : ℕ) → z ≡ eqb r 0 → o ≡ eqb s 1 → t ≡ eqb (r % 2) s → s < 2 → r < p
    → cond (z && o) None (cond t (Some r) (Some (p - r))) ≡ Some x → x < p
by_sign true true t r x s hz ho ht k l h = absurd (cc)
by_sign true false true r x s hz ho ht k l h = let e : r ≡ x = cc in rw (← e) l
by_sign true false false r x s hz ho ht k l h =
    let a : r ≡ 0 = eqb-true r 0 (sym hz) in
    let b = eqb-false s 1 (sym ho) in
    let c = eqb-false (r % 2) s (sym ht) in
    let e : s ≡ 0 = omega arith in
    absurd (c (omega arith))
by_sign false o true r x s hz ho ht k l h = let e : r ≡ x = cc in rw (← e) l
by_sign false o false r x s hz ho ht k l h =
    let e : p - r ≡ x = cc in
    let a = eqb-false r 0 (sym hz) in
    rw (← e) (omega arith)

sign_below : (s r x : ℕ) → s < 2 → r < p → with_sign s (Some r) ≡ Some x → x < p
unfolding with_sign
sign_below s r x k l h = by_sign (eqb r 0) (eqb s 1) (eqb (r % 2) s) r x s refl refl refl k l h

sign_of : (s : ℕ) (o : Option ℕ) (x : ℕ) → s < 2 → ((r : ℕ) → o ≡ Some r → r < p) → with_sign s o ≡ Some x → x < p
sign_of s (Some r) x k f h = sign_below s r x k (f r refl) h
sign_of s None x k f h = absurd (let e : None ≡ Some x = sym (with_sign-none s) ∙ h in (cc))

candidate_below : (u v : ℕ) → candidate_root u v < p
unfolding candidate_root
candidate_below u v = below (u * v ^ 3 * power 252 (u * v ^ 7 % p) ((p - 5) / 8))

recovered_below : (y s x : ℕ) → s < 2 → recover_x y s ≡ Some x → x < p
unfolding recover_x
recovered_below y s x k h =
    let u : ℕ = minus (times y y) 1 in
    let v : ℕ = plus (times d (times y y)) 1 in
    sign_of s (root_by u v (candidate_root u v)) x k (λ r g. root_below u v (candidate_root u v) r (candidate_below u v) g) h

-- ---- a root is one
root_is : (s t : Bool) (u v x y r : ℕ) → s ≡ eqb ((v * x ^ 2) % p) u → t ≡ eqb ((v * x ^ 2) % p) (minus 0 u) → y ≡ times x root_of_minus_1
    → cond s (Some x) (cond t (Some y) None) ≡ Some r → (v * (r * r)) % p ≡ u % p
root_is true t u v x y r hs ht hy h =
    let e : x ≡ r = cc in
    let f : (v * x ^ 2) % p ≡ u = eqb-true ((v * x ^ 2) % p) u (sym hs) in
    rw (← e) (ap (λ z. (v * z) % p) (sym (square_is x)) ∙ sym (mod-mod (v * x ^ 2) p) ∙ ap (λ z. z % p) f)
root_is false true u v x y r hs ht hy h =
    let e : y ≡ r = cc in
    let i : ℕ = root_of_minus_1 in
    let f : (v * x ^ 2) % p ≡ minus 0 u = eqb-true ((v * x ^ 2) % p) (minus 0 u) (sym ht) in
    let g : (v * (x * x)) % p ≡ (less * u) % p =
    ap (λ z. (v * z) % p) (sym (square_is x)) ∙ sym (mod-mod (v * x ^ 2) p) ∙ ap (λ z. z % p) f ∙ of_minus 0 u
    ∙ (let o : 0 + less * u ≡ less * u = omega arith in ap (λ z. z % p) o) in
    let k : (i * i) % p ≡ less % p =
    cancel_with (i * i) less (i * i + 1) (less + 1) (root_squared ∙ sym (zero-mod p) ∙ sym (by_multiples (less + 1) 0 0 1 (omega arith))) (omega arith) in
    let m : v * (x * i * (x * i)) ≡ v * (x * x) * (i * i) = omega arith in
    rw (← e, hy)
    (both_times v (times x i * times x i) v (x * i * (x * i)) refl (both_times _ _ _ _ (of_times x i) (of_times x i)) ∙ ap (λ z. z % p) m
    ∙ both_times (v * (x * x)) (i * i) (less * u) less g k ∙ by_multiples (less * u * less) u u (less * u) (omega arith))
root_is false false u v x y r hs ht hy h = absurd (cc)

turned : (r : ℕ) → r < p → ((p - r) * (p - r)) % p ≡ (r * r) % p
turned r l =
    let q : ℕ = p - r in
    let h : q + r ≡ less + 1 = let e = p_is in omega arith in
    by_multiples (q * q) (r * r) r q (omega (arith, ap (λ z. z * q) h, ap (λ z. z * r) h))

sign_is : (z o t : Bool) (r x : ℕ) → r < p → cond (z && o) None (cond t (Some r) (Some (p - r))) ≡ Some x → (x * x) % p ≡ (r * r) % p
sign_is true true t r x l h = absurd (cc)
sign_is true false true r x l h = let e : r ≡ x = cc in rw (← e) refl
sign_is true false false r x l h = let e : p - r ≡ x = cc in rw (← e) (turned r l)
sign_is false o true r x l h = let e : r ≡ x = cc in rw (← e) refl
sign_is false o false r x l h = let e : p - r ≡ x = cc in rw (← e) (turned r l)

-- the root's square is u/v, whatever its sign
signed_root : (s u v c x : ℕ) (o : Option ℕ) → o ≡ root_by u v c → c < p → with_sign s o ≡ Some x → (v * (x * x)) % p ≡ u % p
unfolding root_by with_sign
signed_root s u v c x (Some r) e l h =
    let f = root_is (eqb ((v * c ^ 2) % p) u) (eqb ((v * c ^ 2) % p) (minus 0 u)) u v c (times c root_of_minus_1) r refl refl refl (sym e) in
    let k : r < p = by_tests (eqb ((v * c ^ 2) % p) u) (eqb ((v * c ^ 2) % p) (minus 0 u)) c (times c root_of_minus_1) r l
    (times_below c root_of_minus_1) (sym e) in
    both_times v (x * x) v (r * r) refl (sign_is (eqb r 0) (eqb s 1) (eqb (r % 2) s) r x k h) ∙ f
signed_root s u v c x None e l h = absurd (cc)

on_curve_by : (x y u v : ℕ) → u ≡ minus (times y y) 1 → v ≡ plus (times d (times y y)) 1 → (v * (x * x)) % p ≡ u % p → OnCurve x y
unfolding OnCurve
on_curve_by x y u v hu hv h =
    let a : u % p ≡ (y * y + less * 1) % p = ap (λ z. z % p) hu ∙ of_minus (times y y) 1 ∙ both_plus _ _ _ _ (of_times y y) refl in
    let b : v % p ≡ (d * (y * y) + 1) % p =
    ap (λ z. z % p) hv ∙ of_plus (times d (times y y)) 1
    ∙ both_plus _ _ _ _ (of_times d (times y y) ∙ both_times d (times y y) d (y * y) refl (of_times y y)) refl in
    let c : ((d * (y * y) + 1) * (x * x)) % p ≡ (y * y + less * 1) % p = sym (both_times v (x * x) (d * (y * y) + 1) (x * x) b refl) ∙ h ∙ a in
    sym (both_plus ((d * (y * y) + 1) * (x * x)) 1 (y * y + less * 1) 1 c refl ∙ by_multiples (y * y + less * 1 + 1) (y * y) 0 1 (omega arith))
    ∙ (let e : (d * (y * y) + 1) * (x * x) + 1 ≡ 1 + x * x + d * (x * x) * (y * y) = omega arith in ap (λ z. z % p) e)

recovered_on : (y s x : ℕ) → recover_x y s ≡ Some x → OnCurve x y
unfolding recover_x
recovered_on y s x h =
    let u : ℕ = minus (times y y) 1 in
    let v : ℕ = plus (times d (times y y)) 1 in
    on_curve_by x y u v refl refl (signed_root s u v (candidate_root u v) x (root_by u v (candidate_root u v)) refl (candidate_below u v) h)

-- a decoded point is shown by its coordinates
decoded_by : (t : Bool) (o : Option ℕ) (y : ℕ) (P : Point) → ((x : ℕ) → o ≡ Some x → (x < p) × OnCurve x y) → (t ≡ true → y < p)
    → cond t (point_with o y) None ≡ Some P → Shows (extended P) P
unfolding point_with
decoded_by true (Some x) y P f g h =
    let e : ◌≡◌ {A = Point} (record { x = x; y = y }) P = cc in
    let F : Point → Type 0 = λ Q. Shows (extended Q) Q in
    let c = f x refl in
    subst F e (point_shown (record { x = x; y = y }) c.0 (g refl) c.1)
decoded_by true None y P f g h = absurd (cc)
decoded_by false o y P f g h = absurd (cc)

pub decoded_shown : (octets : List ℕ) (P : Point) → decode_point octets ≡ Some P → Shows (extended P) P
unfolding decode_point
decoded_shown octets P h =
    let y : ℕ = little_endian octets % 2 ^ 255 in
    let s : ℕ = little_endian octets / 2 ^ 255 % 2 in
    decoded_by (ltb y p) (recover_x y s) y P (λ x e. (recovered_below y s x (omega arith) e, recovered_on y s x e)) (λ t. ltb-true y p t) h
