-- A time of the calendar by its parts, and what follows the year, in decimal digits (X.690, 11.7, 11.8).
use Rattle.std.specs.Prelude.{◌≡◌, ℕ, ◌+◌, ◌*◌, ◌<◌, ◌≤◌, Bool, true, false, ◌&&◌, nat_le, nat_lt, ℤ, pos, ◌+ℤ◌, ◌*ℤ◌, List, ◌++◌, Option, Some, None, refl}
use Rattle.std.specs.Int.{IsInRange}
use Rattle.std.proofs.Common.{sym, ap, ◌∙◌, subst, arith}
use Rattle.std.proofs.lemmas.Bool.{le-leb, lt-ltb, leb-true, ltb-true, both_ways}
use Rattle.jiff.specs.Words.{IsYear, days_in_month, epoch_day, time_nanos}
use Rattle.jiff.specs.Types.{DateTime}
use Rattle.jiff.proofs.Family.{same_datetime, epoch_day_same, civil_nanos-parts}
use Rattle.jiff.proofs.SpanFacts.{signed_arith}
use Rattle.asn1_core.specs.Binds.{◌>>=◌, bind_some, some_is, and_true, true_and}
use Rattle.asn1_core.specs.TwoDigits.{two_digits, two_at, two_again, two_takes}
use Rattle.asn1_core.specs.declared.time.MonthToSecond.{MonthToSecond}

-- ---- the ten digits after the year

abbrev pub ten_digits : MonthToSecond → List ℕ
ten_digits p = two_digits p.month ++ two_digits p.day ++ two_digits p.hour ++ two_digits p.minute ++ two_digits p.second

-- what the first ten bytes spell, and the bytes after them
unfoldable pub ten_at : List ℕ → Option (MonthToSecond × List ℕ)
ten_at b =
    two_at b >>= λ mo. two_at mo.1 >>= λ d. two_at d.1 >>= λ h. two_at h.1 >>= λ mi. two_at mi.1 >>= λ s.
    Some (record { month = mo.0; day = d.0; hour = h.0; minute = mi.0; second = s.0 }, s.1)

-- each part has two digits
pub record IsShort (p : MonthToSecond) : Type 0 where
  pub month : p.month < 100
  pub day : p.day < 100
  pub hour : p.hour < 100
  pub minute : p.minute < 100
  pub second : p.second < 100

pub ten_again : (p : MonthToSecond) (rest : List ℕ) → IsShort p → ten_at (ten_digits p ++ rest) ≡ Some (p, rest)
unfolding ten_at
ten_again p rest l = rw (two_again p.month (two_digits p.day ++ (two_digits p.hour ++ (two_digits p.minute ++ (two_digits p.second ++ rest)))) l.month, two_again p.day (two_digits p.hour ++ (two_digits p.minute ++ (two_digits p.second ++ rest))) l.day, two_again p.hour (two_digits p.minute ++ (two_digits p.second ++ rest)) l.hour, two_again p.minute (two_digits p.second ++ rest) l.minute, two_again p.second rest l.second) refl

-- ---- a time by its parts

-- the calendar has the day, and a clock the time
abbrev pub is_civil : ℕ → MonthToSecond → ℕ → Bool
is_civil year p nanosecond =
    nat_le year 9999 && (nat_le 1 p.month && nat_le p.month 12) && (nat_le 1 p.day && nat_le p.day (days_in_month (pos year) p.month))
    && nat_lt p.hour 24 && nat_lt p.minute 60 && nat_lt p.second 60 && nat_lt nanosecond 1_000_000_000

pub record IsCivil (year : ℕ) (p : MonthToSecond) (nanosecond : ℕ) : Type 0 where
  pub year_in : year ≤ 9999
  pub month_in : IsInRange 1 12 p.month
  pub day_in : IsInRange 1 (days_in_month (pos year) p.month) p.day
  pub hour_in : p.hour < 24
  pub minute_in : p.minute < 60
  pub second_in : p.second < 60
  pub subsec_in : nanosecond < 1_000_000_000

pub civil_is : (y : ℕ) (p : MonthToSecond) (n : ℕ) → is_civil y p n ≡ true → IsCivil y p n
civil_is y p n e =
    let nano = and_true _ _ e in
    let second = and_true _ _ nano.0 in
    let minute = and_true _ _ second.0 in
    let hour = and_true _ _ minute.0 in
    let day = and_true _ _ hour.0 in
    let days = and_true _ _ day.1 in
    let month = and_true _ _ day.0 in
    let months = and_true _ _ month.1 in
    record {
      year_in = leb-true y 9999 month.0;
      month_in = (leb-true 1 p.month months.0, leb-true p.month 12 months.1);
      day_in = (leb-true 1 p.day days.0, leb-true p.day (days_in_month (pos y) p.month) days.1);
      hour_in = ltb-true p.hour 24 hour.1;
      minute_in = ltb-true p.minute 60 minute.1;
      second_in = ltb-true p.second 60 second.1;
      subsec_in = ltb-true n 1_000_000_000 nano.1;
    }

pub is_civil-true : (y : ℕ) (p : MonthToSecond) (n : ℕ) → IsCivil y p n → is_civil y p n ≡ true
is_civil-true y p n c =
    true_and _ _ (true_and _ _ (true_and _ _ (true_and _ _ (true_and _ _
    (true_and _ _ (le-leb y 9999 c.year_in) (true_and _ _ (le-leb 1 p.month c.month_in.0) (le-leb p.month 12 c.month_in.1)))
    (true_and _ _ (le-leb 1 p.day c.day_in.0) (le-leb p.day (days_in_month (pos y) p.month) c.day_in.1)))
    (lt-ltb p.hour 24 c.hour_in)) (lt-ltb p.minute 60 c.minute_in)) (lt-ltb p.second 60 c.second_in)) (lt-ltb n 1_000_000_000 c.subsec_in)

pub year_is : (y : ℕ) → y ≤ 9999 → IsYear (pos y)
year_is y l = (omega (arith, signed_arith), omega (arith, signed_arith))

abbrev pub civil_of : (year : ℕ) (p : MonthToSecond) (nanosecond : ℕ) → IsCivil year p nanosecond → DateTime
civil_of year p nanosecond c = record {
  date = record { year = pos year; month = p.month; day = p.day; year_in = year_is year c.year_in; month_in = c.month_in; day_in = c.day_in };
  time = record { hour = p.hour; minute = p.minute; second = p.second; subsec_nanosecond = nanosecond; hour_in = c.hour_in; minute_in = c.minute_in; second_in = c.second_in; subsec_in = c.subsec_in };
}

abbrev pub civil_if : (year : ℕ) (p : MonthToSecond) (nanosecond : ℕ) (b : Bool) → is_civil year p nanosecond ≡ b → Option DateTime
civil_if year p nanosecond true e = Some (civil_of year p nanosecond (civil_is year p nanosecond e))
civil_if year p nanosecond false e = None

-- the time with these parts, where there is one
unfoldable pub civil : ℕ → MonthToSecond → ℕ → Option DateTime
civil year p nanosecond = civil_if year p nanosecond (is_civil year p nanosecond) refl

abbrev pub parts_of : DateTime → MonthToSecond
parts_of at = record { month = at.date.month; day = at.date.day; hour = at.time.hour; minute = at.time.minute; second = at.time.second }

-- a time has these parts
pub record HasParts (y : ℕ) (p : MonthToSecond) (n : ℕ) (at : DateTime) : Type 0 where
  pub year : at.date.year ≡ pos y
  pub parts : parts_of at ≡ p
  pub nanosecond : at.time.subsec_nanosecond ≡ n

days_at_most : (y : ℤ) (m : ℕ) → days_in_month y m ≤ 31
days_at_most y m = grind arith

pub short_parts : (at : DateTime) → IsShort (parts_of at)
short_parts at = record {
  month = let h = at.date.month_in in omega arith;
  day = let h = at.date.day_in in let k = days_at_most at.date.year at.date.month in omega arith;
  hour = let h = at.time.hour_in in omega arith;
  minute = let h = at.time.minute_in in omega arith;
  second = let h = at.time.second_in in omega arith;
}

civil_if-parts : (y : ℕ) (p : MonthToSecond) (n : ℕ) (b : Bool) (e : is_civil y p n ≡ b) (at : DateTime) → civil_if y p n b e ≡ Some at → HasParts y p n at
civil_if-parts y p n true e at h =
    subst (λ (x : DateTime). HasParts y p n x) (some_is (civil_of y p n (civil_is y p n e)) at h) (record { year = refl; parts = refl; nanosecond = refl })
civil_if-parts y p n false e at h = absurd cc

pub civil_takes : (y : ℕ) (p : MonthToSecond) (n : ℕ) (at : DateTime) → civil y p n ≡ Some at → HasParts y p n at
unfolding civil
civil_takes y p n at h = civil_if-parts y p n (is_civil y p n) refl at h

-- times with the same parts are the same
pub same_by_parts : (a b : DateTime) → a.date.year ≡ b.date.year → parts_of a ≡ parts_of b → a.time.subsec_nanosecond ≡ b.time.subsec_nanosecond → a ≡ b
same_by_parts a b year e n =
    let day : epoch_day a.date ≡ epoch_day b.date =
    epoch_day_same a.date b.date year (ap (λ (x : MonthToSecond). x.month) e) (ap (λ (x : MonthToSecond). x.day) e) in
    let nano : time_nanos a.time ≡ time_nanos b.time =
    ap (λ (x : MonthToSecond). (x.hour * 3600 + x.minute * 60 + x.second) * 1_000_000_000 + a.time.subsec_nanosecond) e
    ∙ ap (λ (x : ℕ). (b.time.hour * 3600 + b.time.minute * 60 + b.time.second) * 1_000_000_000 + x) n in
    same_datetime a b (civil_nanos-parts a ∙ ap (λ (x : ℤ). x *ℤ pos 86_400_000_000_000 +ℤ pos (time_nanos a.time)) day
    ∙ ap (λ (x : ℕ). epoch_day b.date *ℤ pos 86_400_000_000_000 +ℤ pos x) nano ∙ sym (civil_nanos-parts b))

pub same_parts : (y : ℕ) (p : MonthToSecond) (n : ℕ) (a b : DateTime) → HasParts y p n a → HasParts y p n b → a ≡ b
same_parts y p n a b h k =
    same_by_parts a b (h.year ∙ sym k.year) (h.parts ∙ sym k.parts) (h.nanosecond ∙ sym k.nanosecond)

civil_if-again : (y : ℕ) (p : MonthToSecond) (n : ℕ) (b : Bool) (e : is_civil y p n ≡ b) (at : DateTime) → HasParts y p n at → is_civil y p n ≡ true → civil_if y p n b e ≡ Some at
civil_if-again y p n true e at h t =
    let x : DateTime = civil_of y p n (civil_is y p n e) in
    ap (λ (d : DateTime). Some d) (same_parts y p n x at (record { year = refl; parts = refl; nanosecond = refl }) h)
civil_if-again y p n false e at h t = absurd (both_ways (is_civil y p n) e t)

year_below : (y : ℕ) → IsYear (pos y) → y ≤ 9999
year_below y h = omega (arith, signed_arith)

parts-civil : (y : ℕ) (p : MonthToSecond) (n : ℕ) (at : DateTime) → HasParts y p n at → IsCivil y p n
parts-civil y p n at h =
    let at-is : IsCivil y (parts_of at) at.time.subsec_nanosecond = record {
      year_in = year_below y (subst (λ (x : ℤ). IsYear x) h.year at.date.year_in);
      month_in = at.date.month_in;
      day_in = subst (λ (x : ℤ). IsInRange 1 (days_in_month x at.date.month) at.date.day) h.year at.date.day_in;
      hour_in = at.time.hour_in;
      minute_in = at.time.minute_in;
      second_in = at.time.second_in;
      subsec_in = at.time.subsec_in;
    } in
    subst (λ (x : ℕ). IsCivil y p x) h.nanosecond (subst (λ (x : MonthToSecond). IsCivil y x at.time.subsec_nanosecond) h.parts at-is)

pub civil_again : (y : ℕ) (p : MonthToSecond) (n : ℕ) (at : DateTime) → HasParts y p n at → civil y p n ≡ Some at
unfolding civil
civil_again y p n at h =
    civil_if-again y p n (is_civil y p n) refl at h (is_civil-true y p n (parts-civil y p n at h))

civil_if-none : (y : ℕ) (p : MonthToSecond) (n : ℕ) (b : Bool) (e : is_civil y p n ≡ b) → (IsCivil y p n → ⊥) → civil_if y p n b e ≡ None
civil_if-none y p n true e h = absurd (h (civil_is y p n e))
civil_if-none y p n false e h = refl

pub civil_none : (y : ℕ) (p : MonthToSecond) (n : ℕ) → (IsCivil y p n → ⊥) → civil y p n ≡ None
unfolding civil
civil_none y p n h = civil_if-none y p n (is_civil y p n) refl h

pub record Read10 (b : List ℕ) (p : MonthToSecond) (rest : List ℕ) : Type 0 where
  pub spelled : b ≡ ten_digits p ++ rest
  pub short : IsShort p

pub ten_takes : (b : List ℕ) (p : MonthToSecond) (rest : List ℕ) → ten_at b ≡ Some (p, rest) → Read10 b p rest
unfolding ten_at
ten_takes b p rest e =
    let mo = bind_some (two_at b) _ _ e in
    let d = bind_some (two_at mo.0.1) _ _ mo.2 in
    let h = bind_some (two_at d.0.1) _ _ d.2 in
    let mi = bind_some (two_at h.0.1) _ _ h.2 in
    let s = bind_some (two_at mi.0.1) _ _ mi.2 in
    let mo-is = two_takes b mo.0.0 mo.0.1 mo.1 in
    let d-is = two_takes mo.0.1 d.0.0 d.0.1 d.1 in
    let h-is = two_takes d.0.1 h.0.0 h.0.1 h.1 in
    let mi-is = two_takes h.0.1 mi.0.0 mi.0.1 mi.1 in
    let s-is = two_takes mi.0.1 s.0.0 s.0.1 s.1 in
    let q : MonthToSecond = record { month = mo.0.0; day = d.0.0; hour = h.0.0; minute = mi.0.0; second = s.0.0 } in
    let same : ◌≡◌ {A = MonthToSecond × List ℕ} (q, s.0.1) (p, rest) = some_is (q, s.0.1) (p, rest) s.2 in
    let whole : b ≡ ten_digits q ++ s.0.1 =
    mo-is.parts
    ∙ ap (λ (x : List ℕ). two_digits q.month ++ x) (d-is.parts
    ∙ ap (λ (x : List ℕ). two_digits q.day ++ x) (h-is.parts
    ∙ ap (λ (x : List ℕ). two_digits q.hour ++ x) (mi-is.parts
    ∙ ap (λ (x : List ℕ). two_digits q.minute ++ x) s-is.parts))) in
    record {
      spelled = whole ∙ ap (λ (x : MonthToSecond × List ℕ). ten_digits x.0 ++ x.1) same;
      short = subst (λ (x : MonthToSecond × List ℕ). IsShort x.0) same (record { month = mo-is.below; day = d-is.below; hour = h-is.below; minute = mi-is.below; second = s-is.below });
    }
