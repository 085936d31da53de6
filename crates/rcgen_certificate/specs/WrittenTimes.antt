-- How moments are written (RFC 5280, 4.1.2.5).
use Rattle.std.specs.Prelude.{◌≡◌, ℤ, pos, neg_ℤ, Bool, ◌&&◌, int_le}
use Rattle.jiff.specs.Types.{DateTime}
use Rattle.jiff.specs.Words.{civil_nanos, IsBetween}
use Rattle.asn1_core.specs.Moment.{Moment, instant}
use Rattle.asn1_core.specs.Written.{IsWritten}
use Rattle.pkix_cert.specs.Times.{time_parts}
use Rattle.pkix_cert.specs.declared.time.Time.{Time}

-- at is the civil time of the instant in UTC, in a year of four digits
abbrev pub IsUtcOf : ℤ → DateTime → Type 0
IsUtcOf z at = (civil_nanos at ≡ z) × IsBetween (pos 0) (pos 9999) at.date.year

-- the instant has such a time: it lies from 0000-01-01T00:00:00 to the last nanosecond of 9999-12-31 in UTC
abbrev pub is_utc : ℤ → Bool
is_utc z = int_le (neg_ℤ (pos 62_167_219_200_000_000_000)) z && int_le z (pos 253_402_300_799_999_999_999)

-- as its civil time in UTC, in the form that the year there asks for
abbrev pub IsWrittenInstant : ℤ → Time → Type 0
IsWrittenInstant z t = (at : DateTime) × IsUtcOf z at × IsWritten at (time_parts t)

abbrev pub IsWrittenMoment : Moment → Time → Type 0
IsWrittenMoment m t = IsWrittenInstant (instant m) t
