-- The date of each day, and the time of each nanosecond of it.
use Rattle.std.specs.Prelude.{◌≡◌, ◌+ℤ◌, ◌<ℤ◌, ◌≤ℤ◌, ◌+◌, ◌-◌, ◌/◌, ◌%◌, ◌<◌, ◌≤◌, ℕ, ℤ, Bool, true, false, pos, neg_ℤ, ◌&&◌, int_le, refl, suc, zero}
use Rattle.std.proofs.Common.{inl, inr, arith, rules, ◌∙◌}
use Rattle.std.proofs.lemmas.Int.{by_lt_z}
use Rattle.std.proofs.lemmas.Bool.{cases_order}
use Rattle.jiff.specs.Types.{Date, DateTime, Time}
use Rattle.jiff.specs.Words.{epoch_day, time_nanos, days_in_month}
use Rattle.jiff_core.proofs.CalendarLemmas.{days_from_civil-day_count, days_in_month_bounds}
use Rattle.jiff_core.proofs.MarchLemmas.{day_count-early}
use Rattle.jiff_core.proofs.DateLemmas.{days_from_civil-day, days_from_civil-max, days_from_civil-next_month, days_from_civil-next_year}
use Rattle.jiff_core.proofs.DateTimeLemmas.{civil_nanos-parts}
use Rattle.jiff_core.proofs.SignedLemmas.{signed_arith}
use Rattle.rcgen_certificate.specs.WrittenTimes.{IsUtcOf}
use Rattle.rcgen_issue.specs.ListTable.{HasCivilTime}
use borrow.Author.Differences.{up, down}

and_true : (a b : Bool) → (a && b) ≡ true → (a ≡ true) × (b ≡ true)
and_true true true h = (refl, refl)
and_true true false h = absurd cc
and_true false b h = absurd cc

-- ---- the day after

record Next (d : Date) : Type 0 where
  next : Date
  later : d.year ≤ℤ next.year
  is_next : epoch_day next ≡ epoch_day d +ℤ pos 1

in_month : (d : Date) → d.day < days_in_month d.year d.month → Next d
in_month d h =
    let e : Date = record {
      year = d.year;
      month = d.month;
      day = d.day + 1;
      year_in = d.year_in;
      month_in = d.month_in;
      day_in = (omega arith, omega arith);
    } in
    record {
      next = e;
      later = omega (arith, signed_arith);
      is_next = omega (arith, signed_arith, days_from_civil-day d.year d.month d.day (d.day + 1) d.day_in.0 (omega arith));
    }

in_year : (d : Date) → d.day ≡ days_in_month d.year d.month → d.month < 12 → Next d
in_year d h m =
    let long = days_in_month_bounds d.year (d.month + 1) in
    let e : Date = record {
      year = d.year;
      month = d.month + 1;
      day = 1;
      year_in = d.year_in;
      month_in = (omega arith, omega arith);
      day_in = (omega arith, omega arith);
    } in
    record { next = e; later = omega (arith, signed_arith); is_next = days_from_civil-next_month d.year d.month d.day d.month_in.0 h }

after_year : (d : Date) → d.day ≡ 31 → d.month ≡ 12 → d.year <ℤ pos 9999 → Next d
after_year d h m y =
    let e : Date = record {
      year = d.year +ℤ pos 1;
      month = 1;
      day = 1;
      year_in = (omega (arith, signed_arith, d.year_in), omega (arith, signed_arith, d.year_in));
      month_in = (omega arith, omega arith);
      day_in = (omega arith, omega arith);
    } in
    record {
      next = e;
      later = omega (arith, signed_arith);
      is_next = rw (m, h) (days_from_civil-next_year d.year (d.year +ℤ pos 1) (omega (arith, signed_arith, d.year_in)) refl);
    }

next_day : (d : Date) → pos 0 ≤ℤ d.year → epoch_day d <ℤ pos 2_932_896 → Next d
next_day d low h =
    elim (cases_order d.day (days_in_month d.year d.month)) [
      | inl last ↦ elim (cases_order d.month 12) [
        | inl december ↦
            let month : days_in_month d.year d.month ≡ 31 = rw december refl in
            let day : d.day ≡ 31 = last ∙ month in
            by_lt_z d.year (pos 9999) (λ early. after_year d day december early)
            (λ late. let year : d.year ≡ pos 9999 = omega (arith, signed_arith, d.year_in) in
            let end : epoch_day d ≡ pos 2_932_896 = rw (year, december, day) days_from_civil-max in
            absurd (omega (arith, signed_arith)))
        | inr (inl early) ↦ in_year d last early
        | inr (inr late) ↦ absurd (omega (arith, d.month_in))
      ]
      | inr (inl early) ↦ in_month d early
      | inr (inr late) ↦ absurd (omega (arith, d.day_in))
    ]

-- ---- the date of each day of these years, from 0000-01-01 on

record IsOn (n : ℕ) : Type 0 where
  date : Date
  later : pos 0 ≤ℤ date.year
  day : epoch_day date +ℤ pos 719_528 ≡ pos n

first_day : Date
first_day = record { year = pos 0; month = 1; day = 1; year_in = search rules; month_in = search rules; day_in = search rules }

first_is : IsOn 0
unfolding first_day
first_is = record {
  date = first_day;
  later = omega (arith, signed_arith);
  day = omega (arith, signed_arith, days_from_civil-day_count, day_count-early (pos 0) 9999 1 1 refl (omega arith) (omega arith) (omega arith));
}

date_of : (n : ℕ) → n ≤ 3_652_424 → IsOn n
date_of zero h = first_is
date_of (suc n) h =
    let before = date_of n (omega arith) in
    let next = next_day before.date before.later (omega (arith, signed_arith, before.day)) in
    record { date = next.next; later = omega (arith, signed_arith, before.later, next.later); day = omega (arith, signed_arith, before.day, next.is_next) }

-- ---- the time of each nanosecond of a day

time_of : (n : ℕ) → n < 86_400_000_000_000 → (t : Time) × (time_nanos t ≡ n)
time_of n h = (
  record {
    hour = n / 3_600_000_000_000;
    minute = n / 60_000_000_000 % 60;
    second = n / 1_000_000_000 % 60;
    subsec_nanosecond = n % 1_000_000_000;
    hour_in = omega arith;
    minute_in = omega arith;
    second_in = omega arith;
    subsec_in = omega arith;
  },
  omega arith,
)

-- ---- both

-- from 0000-01-01 on
at_nanos : (z : ℤ) (n : ℕ) → z +ℤ pos 62_167_219_200_000_000_000 ≡ pos n → n < 315_569_520_000_000_000_000 → (at : DateTime) × IsUtcOf z at
at_nanos z n e h =
    let day = date_of (n / 86_400_000_000_000) (omega arith) in
    let time = time_of (n % 86_400_000_000_000) (omega arith) in
    let at : DateTime = record { date = day.date; time = time.0 } in
    (at, (omega (arith, signed_arith, civil_nanos-parts at, day.day, time.1), (day.later, day.date.year_in.1)))

pub each_is : (z : ℤ) → HasCivilTime z
each_is z h =
    let hs = and_true (int_le (neg_ℤ (pos 62_167_219_200_000_000_000)) z) (int_le z (pos 253_402_300_799_999_999_999)) h in
    let n = up z + 62_167_219_200_000_000_000 - down z in
    at_nanos z n (omega (arith, signed_arith, hs.0, hs.1)) (omega (arith, signed_arith, hs.0, hs.1))
