-- The contents octets of a GeneralizedTime: YYYYMMDDHHMMSS, a fraction of a second where there is one, and Z (X.690, 11.7; RFC 5280, 4.1.2.5.2).
use Rattle.std.specs.Prelude.{◌≡◌, ℕ, zero, suc, ◌+◌, ◌-◌, ◌*◌, ◌/◌, ◌%◌, ◌^◌, ◌<◌, ◌≤◌, Bool, true, false, ◌&&◌, cond, if◌then◌else◌, nat_lt, ◌==◌, ℤ, pos, negsuc, int_le, unsigned_abs, List, [], ◌∷◌, ◌++◌, Option, Some, None, refl}
use Rattle.std.proofs.Common.{sym, ap, ◌∙◌, subst, arith}
use Rattle.std.proofs.Math.Nat.{pow-suc, pow-zero, mul-le-mul_right}
use Rattle.std.proofs.lemmas.Bool.{eqb-true, ne_eqb, ltb-true, lt-ltb, le-leb, eqb-false}
use Rattle.std.proofs.lemmas.Nat.{div-mul-add, mod-mul-add, div-add-mod', div_below, mod_below}
use Rattle.jiff.specs.Words.{IsYear}
use Rattle.jiff.specs.Types.{DateTime}
use Rattle.jiff.proofs.SpanFacts.{signed_arith}
use Rattle.asn1_core.specs.Base128.{positive}
use Rattle.asn1_core.specs.Binds.{◌>>=◌, bind_some, some_is, and_true, chosen, kept, kept_is, kept_unless}
use Rattle.asn1_core.specs.TwoDigits.{two_digits, is_digit, two_at, two_again, two_takes, digit_is, is_digit-true}
use Rattle.asn1_core.specs.Civil.{ten_digits, ten_at, ten_again, ten_takes, parts_of, short_parts, HasParts, civil, civil_again, civil_takes}
use Rattle.asn1_core.specs.UtcTime.{year_of, twelve_digits, is_z, is_z-true}
use Rattle.asn1_core.specs.Contents.{Contents}
use Rattle.asn1_core.specs.declared.time.MonthToSecond.{MonthToSecond}
use Rattle.asn1_core.specs.declared.time.generalized_time.GeneralizedTime.{GeneralizedTime}

-- ---- the fraction

-- a number below 10 ^ places in so many digits, with no zeros at the end
unfoldable pub fraction_digits : ℕ → ℕ → List ℕ
fraction_digits zero n = []
fraction_digits (suc k) n = if n == 0 then [] else (48 + n / 10 ^ k) ∷ fraction_digits k (n % 10 ^ k)

abbrev pub some_positive : ℕ → Option ℕ
some_positive n = if n == 0 then None else Some n

-- the number that the digits before the Z spell, in units of the last of so many places: they end in no zero, so that from each on they spell more than 0 (X.690, 11.7.3)
unfoldable pub fraction_of : ℕ → List ℕ → Option ℕ
fraction_of places [] = None
fraction_of places (d ∷ rest) =
    if is_z (d ∷ rest) then Some 0
    else (if is_digit d && nat_lt 0 places then fraction_of (places - 1) rest >>= (λ n. some_positive ((d - 48) * 10 ^ (places - 1) + n)) else None)

-- the point and the fraction, where there is one
abbrev pub fraction : ℕ → List ℕ
fraction n = if n == 0 then [] else 46 ∷ fraction_digits 9 n

-- the nanoseconds that what follows the seconds spells
unfoldable pub nanoseconds_of : List ℕ → Option ℕ
nanoseconds_of [] = None
nanoseconds_of (d ∷ rest) =
    if is_z (d ∷ rest) then Some 0
    else (if d == 46 then fraction_of 9 rest >>= some_positive else None)

pub fraction_zero : (k : ℕ) → fraction_digits k 0 ≡ []
unfolding fraction_digits
fraction_zero zero = refl
fraction_zero (suc k) = refl

pub fraction_step : (j k n : ℕ) → j ≡ k + 1 → 0 < n → fraction_digits j n ≡ (48 + n / 10 ^ k) ∷ fraction_digits k (n % 10 ^ k)
unfolding fraction_digits
fraction_step zero k n e l = absurd (omega arith)
fraction_step (suc j) k n e l = let f : j ≡ k = omega arith in rw (ne_eqb n 0 (λ z. omega arith), f) refl

-- a digit and the rest after it aren't a Z alone
digit_no_z : (d : ℕ) (rest : List ℕ) → is_digit d ≡ true → is_z (d ∷ rest) ≡ false
digit_no_z d [] e = let k = is_digit-true d e in ne_eqb d 90 (λ z. omega arith)
digit_no_z d (b ∷ rest) e = refl

fraction_on : (places k d n m : ℕ) (rest : List ℕ) → places - 1 ≡ k → 0 < places → is_digit d ≡ true → fraction_of k rest ≡ Some n → (d - 48) * 10 ^ k + n ≡ m → 0 < m → fraction_of places (d ∷ rest) ≡ Some m
unfolding fraction_of
fraction_on places k d n m rest e l g r s p =
    rw (digit_no_z d rest g, g, lt-ltb 0 places l, e, r, s, ne_eqb m 0 (λ z. omega arith)) refl

z_alone : (places : ℕ) → fraction_of places (90 ∷ []) ≡ Some 0
unfolding fraction_of
z_alone places = refl

pub pow_positive : (k : ℕ) → 0 < 10 ^ k
pow_positive zero = subst (λ (x : ℕ). 0 < x) (sym (pow-zero 10)) (omega arith)
pow_positive (suc k) = subst (λ (x : ℕ). 0 < x) (sym (pow-suc 10 k)) (let h = pow_positive k in omega arith)

pub fraction_again : (k n : ℕ) → n < 10 ^ k → fraction_of k (fraction_digits k n ++ 90 ∷ []) ≡ Some n
fraction_again k zero l = ap (λ (x : List ℕ). fraction_of k (x ++ 90 ∷ [])) (fraction_zero k) ∙ z_alone k
fraction_again zero (suc n) l = absurd (let m : suc n < 1 = subst (λ (x : ℕ). suc n < x) (pow-zero 10) l in omega arith)
fraction_again (suc k) (suc n) l =
    let w : suc n < 10 * 10 ^ k = (let m : suc n < 10 ^ k * 10 = subst (λ (x : ℕ). suc n < x) (pow-suc 10 k) l in omega arith) in
    ap (λ (x : List ℕ). fraction_of (suc k) (x ++ 90 ∷ [])) (fraction_step (suc k) k (suc n) (omega arith) (omega arith))
    ∙ fraction_on (suc k) k (48 + suc n / 10 ^ k) (suc n % 10 ^ k) (suc n) (fraction_digits k (suc n % 10 ^ k) ++ 90 ∷ []) (omega arith) (omega arith)
    (digit_is (suc n / 10 ^ k) (div_below (suc n) (10 ^ k) 10 (pow_positive k) w))
    (fraction_again k (suc n % 10 ^ k) (mod_below (suc n) (10 ^ k) (pow_positive k)))
    (ap (λ (x : ℕ). x * 10 ^ k + suc n % 10 ^ k) (let x : 48 + suc n / 10 ^ k - 48 ≡ suc n / 10 ^ k = omega arith in x) ∙ div-add-mod' (suc n) (10 ^ k))
    (omega arith)

pub record ReadFraction (places : ℕ) (b : List ℕ) (n : ℕ) : Type 0 where
  pub spelled : b ≡ fraction_digits places n ++ 90 ∷ []
  pub below : n < 10 ^ places

pub next_pow : (k : ℕ) → 10 ^ (k + 1) ≡ 10 ^ k * 10
next_pow k = ap (λ (x : ℕ). 10 ^ x) (let next : k + 1 ≡ suc k = omega arith in next) ∙ pow-suc 10 k

pub digits_below : (a k m : ℕ) → a < 10 → m < 10 ^ k → a * 10 ^ k + m < 10 ^ (k + 1)
digits_below a k m l h =
    let most : a * 10 ^ k ≤ 9 * 10 ^ k = mul-le-mul_right (10 ^ k) (omega arith) in
    omega (arith, next_pow k)

fraction_read : (places k d m n : ℕ) (rest : List ℕ) → places ≡ k + 1 → is_digit d ≡ true → ReadFraction k rest m → (d - 48) * 10 ^ k + m ≡ n → (n ≡ 0 → ⊥) → ReadFraction places (d ∷ rest) n
fraction_read places k d m n rest e g r s p =
    let digit = is_digit-true d g in
    let high : n / 10 ^ k ≡ d - 48 = ap (λ (x : ℕ). x / 10 ^ k) (sym s) ∙ div-mul-add (d - 48) (10 ^ k) m r.below in
    let low : n % 10 ^ k ≡ m = ap (λ (x : ℕ). x % 10 ^ k) (sym s) ∙ mod-mul-add (d - 48) (10 ^ k) m r.below in
    let first : d ≡ 48 + n / 10 ^ k = omega arith in
    record {
      spelled = ap (λ (x : ℕ). x ∷ rest) first
          ∙ ap (λ (x : List ℕ). (48 + n / 10 ^ k) ∷ x) (r.spelled ∙ ap (λ (x : ℕ). fraction_digits k x ++ 90 ∷ []) (sym low))
          ∙ ap (λ (x : List ℕ). x ++ 90 ∷ []) (sym (fraction_step places k n e (positive n p)));
      below = subst (λ (x : ℕ). x < 10 ^ places) s (subst (λ (x : ℕ). (d - 48) * 10 ^ k + m < 10 ^ x) (sym e) (digits_below (d - 48) k m (omega arith) r.below));
    }

z_read : (places n : ℕ) (b : List ℕ) → is_z b ≡ true → 0 ≡ n → ReadFraction places b n
z_read places n b e z = subst (λ (x : ℕ). ReadFraction places b x) z (record {
  spelled = is_z-true b e ∙ ap (λ (x : List ℕ). x ++ 90 ∷ []) (sym (fraction_zero places));
  below = pow_positive places;
})

pub fraction_takes : (places : ℕ) (b : List ℕ) (n : ℕ) → fraction_of places b ≡ Some n → ReadFraction places b n
unfolding fraction_of
fraction_takes places [] n e = absurd cc
fraction_takes places (d ∷ rest) n e =
    elim (is_z (d ∷ rest)) as (λ t. is_z (d ∷ rest) ≡ t → cond t (Some 0) (cond (is_digit d && nat_lt 0 places) (fraction_of (places - 1) rest >>= (λ n. some_positive ((d - 48) * 10 ^ (places - 1) + n))) None) ≡ Some n → ReadFraction places (d ∷ rest) n) [
      | true ↦ λ t f. z_read places n (d ∷ rest) t (some_is 0 n f)
      | false ↦ λ t f.
          let g = kept (is_digit d && nat_lt 0 places) (fraction_of (places - 1) rest >>= (λ n. some_positive ((d - 48) * 10 ^ (places - 1) + n))) n f in
          let digit = and_true (is_digit d) (nat_lt 0 places) g.0 in
          let some = ltb-true 0 places digit.1 in
          let m = bind_some (fraction_of (places - 1) rest) _ _ g.1 in
          let x = (d - 48) * 10 ^ (places - 1) + m.0 in
          let q = kept_unless (x == 0) (Some x) n m.2 in
          let same = some_is x n q.1 in
          fraction_read places (places - 1) d m.0 n rest (omega arith) digit.0 (fraction_takes (places - 1) rest m.0 m.1) same (λ z. eqb-false x 0 q.0 (same ∙ z))
    ] refl e

nanoseconds_point : (b : List ℕ) (n : ℕ) → fraction_of 9 b ≡ Some n → 0 < n → nanoseconds_of (46 ∷ b) ≡ Some n
unfolding nanoseconds_of fraction_of
nanoseconds_point [] n e l = absurd (let f : ◌≡◌ {A = Option ℕ} None (Some n) = e in cc)
nanoseconds_point (d ∷ rest) n e l = rw (e, ne_eqb n 0 (λ z. omega arith)) refl

pub fraction_is : (n : ℕ) → 0 < n → fraction n ≡ 46 ∷ fraction_digits 9 n
fraction_is n l = rw (ne_eqb n 0 (λ z. omega arith)) refl

pub nanoseconds_again : (n : ℕ) → n < 1_000_000_000 → nanoseconds_of (fraction n ++ 90 ∷ []) ≡ Some n
unfolding nanoseconds_of
nanoseconds_again zero l = refl
nanoseconds_again (suc n) l =
    ap (λ (x : List ℕ). nanoseconds_of (x ++ 90 ∷ [])) (fraction_is (suc n) (omega arith))
    ∙ nanoseconds_point (fraction_digits 9 (suc n) ++ 90 ∷ []) (suc n) (fraction_again 9 (suc n) l) (omega arith)

pub record ReadNanoseconds (b : List ℕ) (n : ℕ) : Type 0 where
  pub spelled : b ≡ fraction n ++ 90 ∷ []
  pub below : n < 1_000_000_000

nanoseconds_none : (b : List ℕ) (n : ℕ) → is_z b ≡ true → 0 ≡ n → ReadNanoseconds b n
nanoseconds_none b n e z = subst (λ (x : ℕ). ReadNanoseconds b x) z (record { spelled = is_z-true b e; below = omega arith })

nanoseconds_some : (d n : ℕ) (rest : List ℕ) → d ≡ 46 → ReadFraction 9 rest n → (n == 0) ≡ false → ReadNanoseconds (d ∷ rest) n
nanoseconds_some d n rest e r p = record {
  spelled = ap (λ (x : ℕ). x ∷ rest) e ∙ ap (λ (x : List ℕ). 46 ∷ x) r.spelled
      ∙ ap (λ (t : Bool). cond t [] (46 ∷ fraction_digits 9 n) ++ 90 ∷ []) (sym p);
  below = r.below;
}

pub nanoseconds_takes : (b : List ℕ) (n : ℕ) → nanoseconds_of b ≡ Some n → ReadNanoseconds b n
unfolding nanoseconds_of
nanoseconds_takes [] n e = absurd cc
nanoseconds_takes (d ∷ rest) n e =
    elim (is_z (d ∷ rest)) as (λ t. is_z (d ∷ rest) ≡ t → cond t (Some 0) (cond (d == 46) (fraction_of 9 rest >>= some_positive) None) ≡ Some n → ReadNanoseconds (d ∷ rest) n) [
      | true ↦ λ t f. nanoseconds_none (d ∷ rest) n t (some_is 0 n f)
      | false ↦ λ t f.
          let g = kept (d == 46) (fraction_of 9 rest >>= some_positive) n f in
          let m = bind_some (fraction_of 9 rest) some_positive n g.1 in
          let q = kept_unless (m.0 == 0) (Some m.0) n m.2 in
          let same = some_is m.0 n q.1 in
          subst (λ (x : ℕ). ReadNanoseconds (d ∷ rest) x) same
          (nanoseconds_some d m.0 rest (eqb-true d 46 g.0) (fraction_takes 9 rest m.0 m.1) q.0)
    ] refl e

-- ---- the contents octets

-- four digits spell the year: the calendar ends with 9999
abbrev pub is_four_digit_year : DateTime → Bool
is_four_digit_year at = int_le (pos 0) at.date.year

abbrev pub generalized_time_to : GeneralizedTime → Option (List ℕ)
generalized_time_to t =
    if is_four_digit_year t.at
    then Some (two_digits (year_of t.at / 100) ++ twelve_digits t.at ++ fraction t.at.time.subsec_nanosecond ++ 90 ∷ [])
    else None

abbrev pub generalized_time_of : List ℕ → Option GeneralizedTime
generalized_time_of b =
    two_at b >>= λ c. two_at c.1 >>= λ y. ten_at y.1 >>= λ p. nanoseconds_of p.1 >>= λ n. civil (c.0 * 100 + y.0) p.0 n >>= λ at.
    Some (record { at = at })

-- the two halves of a year of four digits
year_halves : (c y : ℕ) (z : ℤ) → y < 100 → z ≡ pos (c * 100 + y) → (int_le (pos 0) z ≡ true) × (unsigned_abs z / 100 ≡ c) × (unsigned_abs z % 100 ≡ y)
year_halves c y z l e =
    let P : ℤ → Type 0 = λ (x : ℤ). (int_le (pos 0) x ≡ true) × (unsigned_abs x / 100 ≡ c) × (unsigned_abs x % 100 ≡ y) in
    subst P (sym e) (le-leb 0 (c * 100 + y) (omega arith), omega arith, omega arith)

generalized_time_spelled : (c y n : ℕ) (p : MonthToSecond) (at : DateTime) → y < 100 → HasParts (c * 100 + y) p n at → generalized_time_to (record { at = at }) ≡ Some (two_digits c ++ (two_digits y ++ (ten_digits p ++ (fraction n ++ 90 ∷ []))))
generalized_time_spelled c y n p at l h =
    let k = year_halves c y at.date.year l h.year in
    kept_is (is_four_digit_year at) (Some (two_digits (year_of at / 100) ++ twelve_digits at ++ fraction at.time.subsec_nanosecond ++ 90 ∷ [])) (two_digits c ++ (two_digits y ++ (ten_digits p ++ (fraction n ++ 90 ∷ []))))
    k.0
    (ap (λ (x : ℕ). Some (two_digits x ++ twelve_digits at ++ (fraction at.time.subsec_nanosecond ++ 90 ∷ []))) k.1
    ∙ ap (λ (x : ℕ). Some (two_digits c ++ (two_digits x ++ (ten_digits (parts_of at) ++ (fraction at.time.subsec_nanosecond ++ 90 ∷ []))))) k.2
    ∙ ap (λ (q : MonthToSecond). Some (two_digits c ++ (two_digits y ++ (ten_digits q ++ (fraction at.time.subsec_nanosecond ++ 90 ∷ []))))) h.parts
    ∙ ap (λ (x : ℕ). Some (two_digits c ++ (two_digits y ++ (ten_digits p ++ (fraction x ++ 90 ∷ []))))) h.nanosecond)

pub generalized_time_there : (b : List ℕ) (t : GeneralizedTime) → generalized_time_of b ≡ Some t → generalized_time_to t ≡ Some b
generalized_time_there b t e =
    let c = bind_some (two_at b) _ _ e in
    let y = bind_some (two_at c.0.1) _ _ c.2 in
    let p = bind_some (ten_at y.0.1) _ _ y.2 in
    let n = bind_some (nanoseconds_of p.0.1) _ _ p.2 in
    let at = bind_some (civil (c.0.0 * 100 + y.0.0) p.0.0 n.0) _ _ n.2 in
    let c-is = two_takes b c.0.0 c.0.1 c.1 in
    let y-is = two_takes c.0.1 y.0.0 y.0.1 y.1 in
    let p-is = ten_takes y.0.1 p.0.0 p.0.1 p.1 in
    let n-is = nanoseconds_takes p.0.1 n.0 n.1 in
    let has = civil_takes (c.0.0 * 100 + y.0.0) p.0.0 n.0 at.0 at.1 in
    let t-is : record { at = at.0 } ≡ t = some_is (record { at = at.0 }) t at.2 in
    ap generalized_time_to (sym t-is) ∙ generalized_time_spelled c.0.0 y.0.0 n.0 p.0.0 at.0 y-is.below has
    ∙ ap (λ (x : List ℕ). Some x) (sym (c-is.parts
    ∙ ap (λ (x : List ℕ). two_digits c.0.0 ++ x) (y-is.parts
    ∙ ap (λ (x : List ℕ). two_digits y.0.0 ++ x) (p-is.spelled
    ∙ ap (λ (x : List ℕ). ten_digits p.0.0 ++ x) n-is.spelled))))

four_digits_is : (z : ℤ) → int_le (pos 0) z ≡ true → z ≡ pos (unsigned_abs z / 100 * 100 + unsigned_abs z % 100)
four_digits_is (pos n) l = ap pos (omega arith)
four_digits_is (negsuc n) l = absurd cc

year_size : (z : ℤ) → IsYear z → unsigned_abs z ≤ 9999
year_size (pos n) h = omega (arith, signed_arith)
year_size (negsuc n) h = omega (arith, signed_arith)

pub year_below : (at : DateTime) → year_of at ≤ 9999
year_below at = year_size at.date.year at.date.year_in

generalized_time_read : (t : GeneralizedTime) → is_four_digit_year t.at ≡ true → generalized_time_of (two_digits (year_of t.at / 100) ++ twelve_digits t.at ++ fraction t.at.time.subsec_nanosecond ++ 90 ∷ []) ≡ Some t
generalized_time_read t l =
    let n = t.at.time.subsec_nanosecond in
    let end = fraction n ++ 90 ∷ [] in
    let has : HasParts (year_of t.at / 100 * 100 + year_of t.at % 100) (parts_of t.at) n t.at =
    record { year = four_digits_is t.at.date.year l; parts = refl; nanosecond = refl } in
    let year = year_below t.at in
    rw (two_again (year_of t.at / 100) (two_digits (year_of t.at % 100) ++ (ten_digits (parts_of t.at) ++ end)) (omega arith), two_again (year_of t.at % 100) (ten_digits (parts_of t.at) ++ end) (omega arith), ten_again (parts_of t.at) end (short_parts t.at), nanoseconds_again n t.at.time.subsec_in, civil_again (year_of t.at / 100 * 100 + year_of t.at % 100) (parts_of t.at) n t.at has) refl

pub generalized_time_back : (t : GeneralizedTime) (b : List ℕ) → generalized_time_to t ≡ Some b → generalized_time_of b ≡ Some t
generalized_time_back t b e =
    let k = chosen (is_four_digit_year t.at) (two_digits (year_of t.at / 100) ++ twelve_digits t.at ++ fraction t.at.time.subsec_nanosecond ++ 90 ∷ []) b e in
    ap generalized_time_of (sym k.1) ∙ generalized_time_read t k.0

unfoldable pub generalized_time_contents : Contents GeneralizedTime
generalized_time_contents = record { to = generalized_time_to; of = generalized_time_of; there = generalized_time_there; back = generalized_time_back }
