-- Dates as moments.
use Rattle.std.specs.Prelude.{◌≡◌, ℕ, ℤ, pos}
use Rattle.jiff.specs.Words.{IsYmd, time_nanos}
use Rattle.asn1_core.specs.Moment.{Moment}

-- midnight of the date in UTC
abbrev pub IsMidnight : ℤ → ℕ → ℕ → Moment → Type 0
IsMidnight year month day moment =
    IsYmd year (pos month) (pos day) moment.local.date × (time_nanos moment.local.time ≡ 0) × (moment.offset_seconds ≡ pos 0)
