-- Seconds since 1970, and how certificates and texts have them.
use Rattle.std.specs.Prelude.{◌≡◌, ℕ, ℤ, pos, neg_ℤ, ◌*ℤ◌, Bool, ◌&&◌, int_le, List, ◌++◌, codes}
use Rattle.jiff.specs.Types.{DateTime}
use Rattle.jiff.specs.Words.{IsBetween, civil_nanos, iso_datetime_text}

abbrev pub nanoseconds : ℤ → ℤ
nanoseconds seconds = seconds *ℤ pos 1_000_000_000

-- in UTC the year is one from 0 to 9999
unfoldable pub has_year : ℤ → Bool
has_year seconds = int_le (neg_ℤ (pos 62_167_219_200)) seconds && int_le seconds (pos 253_402_300_799)

-- at is the civil time in UTC so many seconds after the start of 1970, in a year of four digits
abbrev pub IsCivilTime : ℤ → DateTime → Type 0
IsCivilTime seconds at = (civil_nanos at ≡ nanoseconds seconds) × IsBetween (pos 0) (pos 9999) at.date.year

-- as the date and the time of day in UTC, `2026-12-01T08:00:00Z` (RFC 3339, 5.6)
abbrev pub IsTimeText : ℤ → List ℕ → Type 0
IsTimeText seconds text = (at : DateTime) × IsCivilTime seconds at × (text ≡ iso_datetime_text at ++ codes "Z")
