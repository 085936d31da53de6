-- The coordinates of points.
use Rattle.std.proofs.Common.{◌≡◌, ℕ, ◌+◌, ◌*◌, ◌%◌, ◌&&◌, Bool, true, false, eqb, [], ◌∷◌, refl, sym, ◌∙◌, ap, arith}
use Rattle.std.proofs.Math.Nat.{add-mod}
use Rattle.std.proofs.lemmas.Nat.{mul-mod_first, mul-mod_second}
use Rattle.modular.specs.Numbers.{value}
use Rattle.ed25519.specs.Field.{p, plus, minus, times}
use Rattle.ed25519.specs.Curve.{d}
use Rattle.ed25519.specs.Extended.{Coordinates, extended_add, extended_double}

-- ---- the constants
pub zero_is : value (0 ∷ 0 ∷ 0 ∷ 0 ∷ []) % p ≡ 0
unfolding value p
zero_is = refl

pub one_is : value (1 ∷ 0 ∷ 0 ∷ 0 ∷ []) % p ≡ 1
unfolding value p
one_is = refl

pub twice_d_is : value (0xebd6_9b94_26b2_f159 ∷ 0x00e0_149a_8283_b156 ∷ 0x198e_80f2_eef3_d130 ∷ 0x2406_d9dc_56df_fce7 ∷ []) % p ≡ 2 * d % p
unfolding value p d
twice_d_is = refl

pub neutral_is : ◌≡◌ {A = Coordinates} (record {
  X = times (value (0 ∷ 0 ∷ 0 ∷ 0 ∷ []) % p) (value (1 ∷ 0 ∷ 0 ∷ 0 ∷ []) % p);
  Y = times (value (1 ∷ 0 ∷ 0 ∷ 0 ∷ []) % p) (value (1 ∷ 0 ∷ 0 ∷ 0 ∷ []) % p);
  Z = times (value (1 ∷ 0 ∷ 0 ∷ 0 ∷ []) % p) (value (1 ∷ 0 ∷ 0 ∷ 0 ∷ []) % p);
  T = times (value (0 ∷ 0 ∷ 0 ∷ 0 ∷ []) % p) (value (1 ∷ 0 ∷ 0 ∷ 0 ∷ []) % p);
}) (record { X = 0; Y = 1; Z = 1; T = 0 })
unfolding value p times
neutral_is = refl

-- ---- the sum
-- two points whose coordinates are equal
pub same_coordinates : (X Y Z T X' Y' Z' T' : ℕ) → X ≡ X' → Y ≡ Y' → Z ≡ Z' → T ≡ T'
    → ◌≡◌ {A = Coordinates} (record { X = X; Y = Y; Z = Z; T = T }) (record { X = X'; Y = Y'; Z = Z'; T = T' })
same_coordinates X Y Z T X' Y' Z' T' x y z t = λ i. record { X = x i; Y = y i; Z = z i; T = t i }

-- a product of factors that are something else
pub product_of : (x y u v w : ℕ) → w ≡ times u v → u ≡ x → v ≡ y → w ≡ times x y
product_of x y u v w h f g = rw (f, g) at h

-- C
pub product_with : (r s t u w e : ℕ) → r ≡ times s u → s ≡ times t w → w ≡ 2 * e % p → r ≡ (t * 2 * e * u) % p
unfolding times
product_with r s t u w e h f g =
    let i : t * (2 * e) * u ≡ t * 2 * e * u = omega arith in
    h ∙ ap (λ z. (z * u) % p) (f ∙ ap (λ z. (t * z) % p) g ∙ mul-mod_second t (2 * e) p) ∙ mul-mod_first (t * (2 * e)) u p ∙ ap (λ z. z % p) i

pub product_twice_d : (r t w : ℕ) → r ≡ times t w → w ≡ 2 * d % p → r ≡ (t * 2 * d) % p
unfolding times
product_twice_d r t w h f =
    let i : t * (2 * d) ≡ t * 2 * d = omega arith in
    h ∙ ap (λ z. (t * z) % p) f ∙ mul-mod_second t (2 * d) p ∙ ap (λ z. z % p) i

-- D
pub twice_product : (r s y z : ℕ) → r ≡ plus s s → s ≡ times y z → r ≡ (y * 2 * z) % p
unfolding times plus
twice_product r s y z h f =
    let g : y * z + y * z ≡ y * 2 * z = omega arith in
    h ∙ ap (λ w. (w + w) % p) f ∙ sym (add-mod (y * z) (y * z) p) ∙ ap (λ w. w % p) g

pub sum_by : (X Y Z T X' Y' Z' T' a b c e f g h k x y z t : ℕ)
    → a ≡ times (minus Y X) (minus Y' X') → b ≡ times (plus Y X) (plus Y' X') → c ≡ (T * 2 * d * T') % p → e ≡ (Z * 2 * Z') % p
    → f ≡ minus b a → g ≡ minus e c → h ≡ plus e c → k ≡ plus b a
    → x ≡ times f g → y ≡ times h k → z ≡ times g h → t ≡ times f k
    → ◌≡◌ {A = Coordinates} (record { X = x; Y = y; Z = z; T = t })
    (extended_add (record { X = X; Y = Y; Z = Z; T = T }) (record { X = X'; Y = Y'; Z = Z'; T = T' }))
unfolding extended_add
sum_by X Y Z T X' Y' Z' T' a b c e f g h k x y z t ha hb hc he hf hg hh hk hx hy hz ht =
    let pf : f ≡ minus (times (plus Y X) (plus Y' X')) (times (minus Y X) (minus Y' X')) = rw (ha, hb) at hf in
    let pg : g ≡ minus ((Z * 2 * Z') % p) ((T * 2 * d * T') % p) = rw (hc, he) at hg in
    let ph : h ≡ plus ((Z * 2 * Z') % p) ((T * 2 * d * T') % p) = rw (hc, he) at hh in
    let pk : k ≡ plus (times (plus Y X) (plus Y' X')) (times (minus Y X) (minus Y' X')) = rw (ha, hb) at hk in
    same_coordinates _ _ _ _ _ _ _ _ (rw (pf, pg) at hx) (rw (ph, pk) at hy) (rw (pg, ph) at hz) (rw (pf, pk) at ht)

-- the sum with a point whose Z is 1, as it is added
pub added_by : (X Y Z T u v w a b c e f g h k : ℕ) (P : Coordinates) → u ≡ minus P.Y P.X → v ≡ plus P.Y P.X → w ≡ (P.T * 2 * d) % p → P.Z ≡ 1
    → a ≡ times (minus Y X) u → b ≡ times (plus Y X) v → c ≡ times T w → e ≡ plus Z Z
    → f ≡ minus b a → g ≡ minus e c → h ≡ plus e c → k ≡ plus b a
    → ◌≡◌ {A = Coordinates} (record { X = times f g; Y = times h k; Z = times g h; T = times f k })
    (extended_add (record { X = X; Y = Y; Z = Z; T = T }) P)
unfolding times plus
added_by X Y Z T u v w a b c e f g h k P hu hv hw one ha hb hc he hf hg hh hk =
    let i : T * (P.T * 2 * d) ≡ T * 2 * d * P.T = omega arith in
    let j : Z + Z ≡ Z * 2 * P.Z = rw one (omega arith) in
    sum_by X Y Z T P.X P.Y P.Z P.T a b c e f g h k _ _ _ _
    (ha ∙ ap (times (minus Y X)) hu) (hb ∙ ap (times (plus Y X)) hv)
    (hc ∙ ap (λ z. (T * z) % p) hw ∙ mul-mod_second T (P.T * 2 * d) p ∙ ap (λ z. z % p) i) (he ∙ ap (λ z. z % p) j)
    hf hg hh hk refl refl refl refl

-- twice a point
pub doubled_by : (X Y Z T a b s c h q r e g f : ℕ) → a ≡ times X X → b ≡ times Y Y → s ≡ times Z Z → c ≡ plus s s → h ≡ plus a b
    → q ≡ plus X Y → r ≡ times q q → e ≡ minus h r → g ≡ minus a b → f ≡ plus c g
    → ◌≡◌ {A = Coordinates} (record { X = times e f; Y = times g h; Z = times f g; T = times e h })
    (extended_double (record { X = X; Y = Y; Z = Z; T = T }))
unfolding extended_double
doubled_by X Y Z T a b s c h q r e g f ha hb hs hc hh hq hr he hg hf =
    let ph : h ≡ plus (times X X) (times Y Y) = rw (ha, hb) at hh in
    let pc : c ≡ plus (times Z Z) (times Z Z) = rw hs at hc in
    let pr : r ≡ times (plus X Y) (plus X Y) = rw hq at hr in
    let pe : e ≡ minus (plus (times X X) (times Y Y)) (times (plus X Y) (plus X Y)) = rw (ph, pr) at he in
    let pg : g ≡ minus (times X X) (times Y Y) = rw (ha, hb) at hg in
    let pf : f ≡ plus (plus (times Z Z) (times Z Z)) (minus (times X X) (times Y Y)) = rw (pc, pg) at hf in
    same_coordinates _ _ _ _ _ _ _ _ (rw (pe, pf) refl) (rw (pg, ph) refl) (rw (pf, pg) refl) (rw (pe, ph) refl)

-- ---- whether two points are the same, by two tests
pub not_same : (r b : Bool) (u v x y : ℕ) → r ≡ eqb u v → u ≡ x → v ≡ y → r ≡ false → false ≡ (eqb x y && b)
not_same r b u v x y h f g e =
    let k : eqb x y ≡ false = rw (f, g) at (sym h ∙ e) in
    rw k refl

pub same_by : (r s : Bool) (u v x y u' v' x' y' : ℕ) → r ≡ eqb u v → u ≡ x → v ≡ y → r ≡ true
    → s ≡ eqb u' v' → u' ≡ x' → v' ≡ y' → s ≡ (eqb x y && eqb x' y')
same_by r s u v x y u' v' x' y' h f g e h' f' g' =
    let k : eqb x y ≡ true = rw (f, g) at (sym h ∙ e) in
    rw k (rw (f', g') at h')
