-- A moment: a civil time and how far its clock is ahead of UTC.
use Rattle.std.specs.Prelude.{◌≡◌, ℤ, pos, neg_ℤ, ◌-ℤ◌, ◌*ℤ◌, Bool, ◌&&◌, int_le}
use Rattle.std.specs.Ordering.{int_eq, on}
use Rattle.jiff.specs.Words.{civil_nanos, IsBetween}
use Rattle.jiff.specs.Types.{DateTime}

pub record Moment : Type 0 where
  pub local : DateTime
  pub offset_seconds : ℤ

-- the nanoseconds from 1970-01-01T00:00:00 in UTC
abbrev pub instant : Moment → ℤ
instant m = civil_nanos m.local -ℤ m.offset_seconds *ℤ pos 1_000_000_000

-- whatever the clocks show
abbrev pub same_instant : Moment → Moment → Bool
same_instant = on instant int_eq

-- at is the civil time of the same moment in UTC, in a year of four digits
abbrev pub IsUtc : Moment → DateTime → Type 0
IsUtc m at = (civil_nanos at ≡ instant m) × IsBetween (pos 0) (pos 9999) at.date.year

-- the moment has such a time: it lies from 0000-01-01T00:00:00 to the last nanosecond of 9999-12-31 in UTC
abbrev pub has_utc : Moment → Bool
has_utc m = int_le (neg_ℤ (pos 62_167_219_200_000_000_000)) (instant m) && int_le (instant m) (pos 253_402_300_799_999_999_999)
