-- Times that have a form in UTC, by their instants.
use Rattle.std.specs.Prelude.{ℕ, ◌+◌, ◌*◌, ℤ, pos, neg_ℤ, ◌+ℤ◌, ◌-ℤ◌, ◌*ℤ◌, int_le, Bool, ◌&&◌, if◌then◌else◌, List, Option, Some, None}
use Rattle.jiff_core.specs.Calendar.{days_from_civil}
use Rattle.asn1_core.specs.Binds.{◌>>=◌}
use Rattle.toml_format.specs.TimeText.{CalendarDate, ClockTime, TimestampView, date_time}

-- the days from 1970-01-01 to the date
abbrev pub days_of : CalendarDate → ℤ
days_of d = days_from_civil d.year d.month d.day

-- the nanoseconds since midnight
abbrev pub nanoseconds_of : ClockTime → ℕ
nanoseconds_of t = (t.hour * 3600 + t.minute * 60 + t.second) * 1_000_000_000 + t.nanosecond

-- the nanoseconds from 1970-01-01T00:00:00 in UTC
abbrev pub instant_of : TimestampView → ℤ
instant_of t =
    days_of t.date *ℤ pos 86_400_000_000_000 +ℤ pos (nanoseconds_of t.time) -ℤ t.offset *ℤ pos 1_000_000_000

-- it lies from 0000-01-01T00:00:00 to the last nanosecond of 9999-12-31 in UTC
abbrev pub has_utc_form : ℤ → Bool
has_utc_form n = int_le (neg_ℤ (pos 62_167_219_200_000_000_000)) n && int_le n (pos 253_402_300_799_999_999_999)

abbrev pub in_utc : ℤ → Option ℤ
in_utc n = if has_utc_form n then Some n else None

-- the instant of the whole text, where it has a form in UTC
unfoldable pub utc_instant : List ℕ → Option ℤ
utc_instant text = date_time text >>= (λ t. in_utc (instant_of t))
