-- The contents octets of a UTCTime: YYMMDDHHMMSSZ, for the years 1950 to 2049 (X.690, 11.8; RFC 5280, 4.1.2.5.1).
use Rattle.std.specs.Prelude.{◌≡◌, ℕ, ◌+◌, ◌%◌, ◌<◌, Bool, true, false, ◌&&◌, if◌then◌else◌, nat_lt, ◌==◌, ℤ, pos, negsuc, int_le, unsigned_abs, List, [], ◌∷◌, ◌++◌, Option, Some, None, refl}
use Rattle.std.proofs.Common.{sym, ap, ◌∙◌, arith}
use Rattle.std.proofs.lemmas.Bool.{eqb-true, eq-eqb}
use Rattle.jiff.specs.Types.{DateTime}
use Rattle.asn1_core.specs.Binds.{◌>>=◌, bind_some, some_is, and_true, true_and, chosen, kept, kept_is}
use Rattle.asn1_core.specs.TwoDigits.{two_digits, two_at, two_again, two_takes}
use Rattle.asn1_core.specs.Civil.{ten_digits, ten_at, ten_again, ten_takes, parts_of, short_parts, HasParts, civil, civil_again, civil_takes}
use Rattle.asn1_core.specs.Contents.{Contents}
use Rattle.asn1_core.specs.declared.time.MonthToSecond.{MonthToSecond}
use Rattle.asn1_core.specs.declared.time.utc_time.UtcTime.{UtcTime}

-- the years that a UTCTime carries
abbrev pub is_utc_time_year : DateTime → Bool
is_utc_time_year at = int_le (pos 1950) at.date.year && int_le at.date.year (pos 2049)

abbrev pub year_of : DateTime → ℕ
year_of at = unsigned_abs at.date.year

-- the last two digits of the year, and those of the rest
abbrev pub twelve_digits : DateTime → List ℕ
twelve_digits at = two_digits (year_of at % 100) ++ ten_digits (parts_of at)

-- the year that two digits represent
abbrev pub full_year : ℕ → ℕ
full_year n = if nat_lt n 50 then 2000 + n else 1900 + n

-- the letter Z, and nothing after it
abbrev pub is_z : List ℕ → Bool
is_z [] = false
is_z (z ∷ []) = z == 90
is_z (z ∷ b ∷ rest) = false

abbrev pub utc_time_to : UtcTime → Option (List ℕ)
utc_time_to t = if is_utc_time_year t.at && (t.at.time.subsec_nanosecond == 0) then Some (twelve_digits t.at ++ 90 ∷ []) else None

abbrev pub utc_time_of : List ℕ → Option UtcTime
utc_time_of b =
    two_at b >>= λ y. ten_at y.1 >>= λ p. (if is_z p.1 then civil (full_year y.0) p.0 0 else None) >>= λ at.
    Some (record { at = at })

pub is_z-true : (b : List ℕ) → is_z b ≡ true → b ≡ 90 ∷ []
is_z-true [] e = absurd cc
is_z-true (z ∷ []) e = ap (λ (x : ℕ). x ∷ []) (eqb-true z 90 e)
is_z-true (z ∷ b ∷ rest) e = absurd cc

in_years : (y : ℕ) (z : ℤ) → y < 100 → z ≡ pos (full_year y) → ((int_le (pos 1950) z && int_le z (pos 2049)) ≡ true) × (unsigned_abs z % 100 ≡ y)
in_years y z l e = grind arith

utc_time_spelled : (y : ℕ) (p : MonthToSecond) (at : DateTime) → y < 100 → HasParts (full_year y) p 0 at → utc_time_to (record { at = at }) ≡ Some (two_digits y ++ (ten_digits p ++ 90 ∷ []))
utc_time_spelled y p at l h =
    let k = in_years y at.date.year l h.year in
    kept_is (is_utc_time_year at && (at.time.subsec_nanosecond == 0)) (Some (twelve_digits at ++ 90 ∷ [])) (two_digits y ++ (ten_digits p ++ 90 ∷ []))
    (true_and (is_utc_time_year at) (at.time.subsec_nanosecond == 0) k.0 (eq-eqb at.time.subsec_nanosecond 0 h.nanosecond))
    (ap (λ (x : ℕ). Some (two_digits x ++ (ten_digits (parts_of at) ++ 90 ∷ []))) k.1
    ∙ ap (λ (q : MonthToSecond). Some (two_digits y ++ (ten_digits q ++ 90 ∷ []))) h.parts)

pub utc_time_there : (b : List ℕ) (t : UtcTime) → utc_time_of b ≡ Some t → utc_time_to t ≡ Some b
utc_time_there b t e =
    let y = bind_some (two_at b) _ _ e in
    let p = bind_some (ten_at y.0.1) _ _ y.2 in
    let at = bind_some (if is_z p.0.1 then civil (full_year y.0.0) p.0.0 0 else None) _ _ p.2 in
    let k = kept (is_z p.0.1) (civil (full_year y.0.0) p.0.0 0) at.0 at.1 in
    let y-is = two_takes b y.0.0 y.0.1 y.1 in
    let p-is = ten_takes y.0.1 p.0.0 p.0.1 p.1 in
    let has = civil_takes (full_year y.0.0) p.0.0 0 at.0 k.1 in
    let t-is : record { at = at.0 } ≡ t = some_is (record { at = at.0 }) t at.2 in
    ap utc_time_to (sym t-is) ∙ utc_time_spelled y.0.0 p.0.0 at.0 y-is.below has
    ∙ ap (λ (x : List ℕ). Some x) (sym (y-is.parts ∙ ap (λ (x : List ℕ). two_digits y.0.0 ++ x) (p-is.spelled ∙ ap (λ (x : List ℕ). ten_digits p.0.0 ++ x) (is_z-true p.0.1 k.0))))

full_year_is : (z : ℤ) → int_le (pos 1950) z ≡ true → int_le z (pos 2049) ≡ true → z ≡ pos (full_year (unsigned_abs z % 100))
full_year_is (pos n) l h = grind arith
full_year_is (negsuc n) l h = absurd cc

utc_time_read : (t : UtcTime) → is_utc_time_year t.at ≡ true → t.at.time.subsec_nanosecond ≡ 0 → utc_time_of (twelve_digits t.at ++ 90 ∷ []) ≡ Some t
utc_time_read t l n =
    let has : HasParts (full_year (year_of t.at % 100)) (parts_of t.at) 0 t.at =
    (let k = and_true (int_le (pos 1950) t.at.date.year) (int_le t.at.date.year (pos 2049)) l in
    record { year = full_year_is t.at.date.year k.0 k.1; parts = refl; nanosecond = n }) in
    rw (two_again (year_of t.at % 100) (ten_digits (parts_of t.at) ++ 90 ∷ []) (omega arith), ten_again (parts_of t.at) (90 ∷ []) (short_parts t.at), civil_again (full_year (year_of t.at % 100)) (parts_of t.at) 0 t.at has) refl

pub utc_time_back : (t : UtcTime) (b : List ℕ) → utc_time_to t ≡ Some b → utc_time_of b ≡ Some t
utc_time_back t b e =
    let k = chosen (is_utc_time_year t.at && (t.at.time.subsec_nanosecond == 0)) (twelve_digits t.at ++ 90 ∷ []) b e in
    let carried = and_true (is_utc_time_year t.at) (t.at.time.subsec_nanosecond == 0) k.0 in
    ap utc_time_of (sym k.1) ∙ utc_time_read t carried.0 (eqb-true t.at.time.subsec_nanosecond 0 carried.1)

unfoldable pub utc_time_contents : Contents UtcTime
utc_time_contents = record { to = utc_time_to; of = utc_time_of; there = utc_time_there; back = utc_time_back }
