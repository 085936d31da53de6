-- A date, a time of day and an offset as text (RFC 3339, 5.6): two digits each, four of the year, one to nine
-- after the period. T and Z are capital letters, and no second is a leap second.
use Rattle.std.specs.Prelude.{ℕ, ◌+◌, ◌-◌, ◌*◌, ◌/◌, ℤ, pos, neg_ℤ, Bool, false, ◌&&◌, ◌==◌, nat_lt, nat_le, if◌then◌else◌}
use Rattle.std.specs.Prelude.{List, [], ◌∷◌, Option, Some, None}
use Rattle.std.specs.Char.{is_ascii_digit}
use Rattle.std.specs.Option.{option_map}
use Rattle.jiff_core.specs.Calendar.{days_in_month}
use Rattle.asn1_core.specs.Binds.{◌>>=◌}

pub record CalendarDate : Type 0 where
  pub year : ℤ
  pub month : ℕ
  pub day : ℕ

pub record ClockTime : Type 0 where
  pub hour : ℕ
  pub minute : ℕ
  pub second : ℕ
  pub nanosecond : ℕ

pub record TimestampView : Type 0 where
  pub date : CalendarDate
  pub time : ClockTime
  -- how many seconds the clock is ahead of UTC
  pub offset : ℤ

-- Each reader gives what it reads at the front, and the bytes after it.

-- the number of two digits
unfoldable pub two_digits_at : List ℕ → Option (ℕ × List ℕ)
two_digits_at (a ∷ b ∷ rest) = if is_ascii_digit a && is_ascii_digit b then Some (10 * (a - 48) + (b - 48), rest) else None
two_digits_at _ = None

-- this byte
unfoldable pub byte_at : ℕ → List ℕ → Option (List ℕ)
byte_at expected (b ∷ rest) = if b == expected then Some rest else None
byte_at expected [] = None

-- the calendar has this day
abbrev pub is_date : ℕ → ℕ → ℕ → Bool
is_date year month day =
    nat_le 1 month && nat_le month 12 && nat_le 1 day && nat_le day (days_in_month (pos year) month)

unfoldable pub date_of : ℕ → ℕ → ℕ → Option CalendarDate
date_of year month day =
    if is_date year month day then Some (record { year = pos year; month = month; day = day }) else None

unfoldable pub time_of_day : ℕ → ℕ → ℕ → ℕ → Option ClockTime
time_of_day hour minute second nanosecond =
    if nat_lt hour 24 && nat_lt minute 60 && nat_lt second 60
    then Some (record { hour = hour; minute = minute; second = second; nanosecond = nanosecond }) else None

-- full-date
unfoldable pub full_date_at : List ℕ → Option (CalendarDate × List ℕ)
full_date_at bytes = do
  century ← two_digits_at bytes
  year ← two_digits_at century.1
  after_year ← byte_at 45 year.1
  month ← two_digits_at after_year
  after_month ← byte_at 45 month.1
  day ← two_digits_at after_month
  date ← date_of (100 * century.0 + year.0) month.0 day.0
  Some (date, day.1)

-- the digits at the front: the first counts so many nanoseconds, each later one a tenth of the one before it,
-- and none less than one nanosecond
unfoldable pub decimals_at : ℕ → List ℕ → Option (ℕ × List ℕ)
decimals_at unit [] = Some (0, [])
decimals_at unit (b ∷ rest) =
    if is_ascii_digit b then (if unit == 0 then None
    else option_map (λ x. ((b - 48) * unit + x.0, x.1)) (decimals_at (unit / 10) rest))
    else Some (0, b ∷ rest)

-- some byte is a digit at the front
abbrev pub begins_with_digit : List ℕ → Bool
begins_with_digit [] = false
begins_with_digit (b ∷ rest) = is_ascii_digit b

-- time-secfrac, or nothing, as nanoseconds
unfoldable pub fraction_at : List ℕ → Option (ℕ × List ℕ)
fraction_at [] = Some (0, [])
fraction_at (b ∷ rest) =
    if b == 46 then (if begins_with_digit rest then decimals_at 100_000_000 rest else None)
    else Some (0, b ∷ rest)

-- partial-time
unfoldable pub partial_time_at : List ℕ → Option (ClockTime × List ℕ)
partial_time_at bytes = do
  hour ← two_digits_at bytes
  after_hour ← byte_at 58 hour.1
  minute ← two_digits_at after_hour
  after_minute ← byte_at 58 minute.1
  second ← two_digits_at after_minute
  fraction ← fraction_at second.1
  time ← time_of_day hour.0 minute.0 second.0 fraction.0
  Some (time, fraction.1)

-- hours and minutes, as seconds
unfoldable pub hours_minutes_at : List ℕ → Option (ℕ × List ℕ)
hours_minutes_at bytes = do
  hour ← two_digits_at bytes
  after_hour ← byte_at 58 hour.1
  minute ← two_digits_at after_hour
  if nat_lt hour.0 24 && nat_lt minute.0 60 then Some (3600 * hour.0 + 60 * minute.0, minute.1) else None

-- time-offset: Z, or a sign and a span
unfoldable pub time_offset_at : List ℕ → Option (ℤ × List ℕ)
time_offset_at [] = None
time_offset_at (b ∷ rest) =
    if b == 90 then Some (pos 0, rest)
    else (if b == 43 then option_map (λ x. (pos x.0, x.1)) (hours_minutes_at rest)
    else (if b == 45 then option_map (λ x. (neg_ℤ (pos x.0), x.1)) (hours_minutes_at rest) else None))

-- the value, where nothing comes after it
abbrev pub alone : {A : Type 0} → A → List ℕ → Option A
alone x [] = Some x
alone x (b ∷ rest) = None

-- date-time: the whole text
unfoldable pub date_time : List ℕ → Option TimestampView
date_time text = do
  date ← full_date_at text
  after_date ← byte_at 84 date.1
  clock ← partial_time_at after_date
  offset ← time_offset_at clock.1
  alone (record { date = date.0; time = clock.0; offset = offset.0 }) offset.1
