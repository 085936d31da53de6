-- Which civil times lie in the years 0 to 9999.
use Rattle.std.specs.Prelude.{◌≡◌, ◌↔◌, Option, Some, None, is_some, MatchOption, Bool, true, false, ◌&&◌, ℤ, pos, neg_ℤ, ◌≤ℤ◌, ◌<ℤ◌, int_le, refl}
use Rattle.std.proofs.Common.{arith, rules, inl, sym, ◌∙◌, subst}
use Rattle.std.proofs.lemmas.Bool.{false≢true}
use Rattle.jiff.specs.Types.{DateTime, Date}
use Rattle.jiff.specs.Words.{civil_nanos, epoch_day, IsCivilNanos}
use Rattle.jiff.proofs.Family.{epoch_day-lt, civil_nanos-parts, civil_nanos_range, time_nanos_bound}
use Rattle.jiff.proofs.OnLiterals.{jiff_on_literals}
use Rattle.jiff.proofs.SpanFacts.{signed_arith}
use Rattle.asn1_core.specs.Moment.{Moment, instant, has_utc, IsUtc}

first_date : Date
first_date = record { year = pos 0; month = 1; day = 1; year_in = search rules; month_in = search rules; day_in = search rules }

date_before : Date
date_before = record { year = neg_ℤ (pos 1); month = 12; day = 31; year_in = search rules; month_in = search rules; day_in = search rules }

first_day : epoch_day first_date ≡ neg_ℤ (pos 719_528)
unfolding jiff_on_literals first_date
first_day = refl

day_before : epoch_day date_before ≡ neg_ℤ (pos 719_529)
unfolding jiff_on_literals date_before
day_before = refl

before : (at : DateTime) → at.date.year <ℤ pos 0 → civil_nanos at <ℤ neg_ℤ (pos 62_167_219_200_000_000_000)
unfolding first_date
before at l =
    let d = epoch_day-lt at.date first_date (inl l) in
    omega (arith, signed_arith, civil_nanos-parts at, time_nanos_bound at.time, first_day, d)

after : (at : DateTime) → pos 0 ≤ℤ at.date.year → neg_ℤ (pos 62_167_219_200_000_000_000) ≤ℤ civil_nanos at
unfolding date_before
after at l =
    let y : neg_ℤ (pos 1) <ℤ at.date.year = omega (arith, signed_arith) in
    let d = epoch_day-lt date_before at.date (inl y) in
    omega (arith, signed_arith, civil_nanos-parts at, day_before, d)

within : ℤ → Bool
within z = int_le (neg_ℤ (pos 62_167_219_200_000_000_000)) z && int_le z (pos 253_402_300_799_999_999_999)

is_within : (z : ℤ) → neg_ℤ (pos 62_167_219_200_000_000_000) ≤ℤ z → z ≤ℤ pos 253_402_300_799_999_999_999 → within z ≡ true
unfolding within
is_within z l h = grind arith

isnt_within : (z : ℤ) → z <ℤ neg_ℤ (pos 62_167_219_200_000_000_000) → within z ≡ false
unfolding within
isnt_within z l = grind arith

pub has_it : (m : Moment) (at : DateTime) → civil_nanos at ≡ instant m → pos 0 ≤ℤ at.date.year → true ≡ has_utc m
unfolding within
has_it m at e l =
    sym (is_within (instant m) (subst (λ (z : ℤ). neg_ℤ (pos 62_167_219_200_000_000_000) ≤ℤ z) e (after at l)) (subst (λ (z : ℤ). z ≤ℤ pos 253_402_300_799_999_999_999) e (civil_nanos_range at).1))

pub has_none : (m : Moment) (at : DateTime) → civil_nanos at ≡ instant m → at.date.year <ℤ pos 0 → false ≡ has_utc m
unfolding within
has_none m at e l = sym (isnt_within (instant m) (subst (λ (z : ℤ). z <ℤ neg_ℤ (pos 62_167_219_200_000_000_000)) e (before at l)))

pub none_at : (m : Moment) → ¬ (IsCivilNanos (instant m)) → (at : DateTime) → ¬ (IsUtc m at)
none_at m h at u = h (subst IsCivilNanos u.0 (civil_nanos_range at))

pub has_utc_law : (m : Moment) (o : Option DateTime) → MatchOption o ((at : DateTime) → ¬ (IsUtc m at)) (IsUtc m) → is_some o ≡ has_utc m → (has_utc m ≡ true) ↔ ((at : DateTime) × IsUtc m at)
has_utc_law m None v s = (λ h. absurd (false≢true (s ∙ h)), λ x. absurd (v x.0 x.1))
has_utc_law m (Some at) v s = (λ h. (at, v), λ x. sym s)
