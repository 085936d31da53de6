-- How a civil time in UTC is written: its whole seconds, as a UTCTime in the years 1950 to 2049, and else as a GeneralizedTime (RFC 5280, 4.1.2.5).
use Rattle.std.specs.Prelude.{◌≡◌, ℕ, true, false, ◌⊎◌, pos, ◌≤ℤ◌, List, Option, Some}
use Rattle.std.proofs.Common.{inl, inr}
use Rattle.jiff.specs.Types.{DateTime}
use Rattle.asn1_core.specs.UtcTime.{is_utc_time_year, utc_time_contents}
use Rattle.asn1_core.specs.GeneralizedTime.{generalized_time_contents}
use Rattle.asn1_core.specs.declared.time.utc_time.UtcTime.{UtcTime}
use Rattle.asn1_core.specs.declared.time.generalized_time.GeneralizedTime.{GeneralizedTime}

-- whole is the second in which at lies
abbrev pub IsWholeSecond : DateTime → DateTime → Type 0
IsWholeSecond at whole =
    (whole.date ≡ at.date) × (whole.time.hour ≡ at.time.hour) × (whole.time.minute ≡ at.time.minute)
    × (whole.time.second ≡ at.time.second) × (whole.time.subsec_nanosecond ≡ 0)

-- a UTCTime for the years that one carries, and else a GeneralizedTime
abbrev pub IsWritten : DateTime → UtcTime ⊎ GeneralizedTime → Type 0
IsWritten at (inl t) = (is_utc_time_year at ≡ true) × IsWholeSecond at t.at
IsWritten at (inr t) = (is_utc_time_year at ≡ false) × IsWholeSecond at t.at

abbrev pub written_contents : UtcTime ⊎ GeneralizedTime → Option (List ℕ)
written_contents (inl t) = utc_time_contents.to t
written_contents (inr t) = generalized_time_contents.to t

-- what is written has contents octets, in each year of four digits
abbrev pub IsCarried : Type 0
IsCarried =
    (at : DateTime) (t : UtcTime ⊎ GeneralizedTime) → pos 0 ≤ℤ at.date.year → IsWritten at t
    → (b : List ℕ) × (written_contents t ≡ Some b)

-- and is one value
abbrev pub IsWrittenOnce : Type 0
IsWrittenOnce = (at : DateTime) (s t : UtcTime ⊎ GeneralizedTime) → IsWritten at s → IsWritten at t → s ≡ t
