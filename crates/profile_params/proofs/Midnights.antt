-- The first midnight of a year.
use Rattle.std.proofs.Common.{◌≡◌, ℕ, ℤ, pos, refl}
use Rattle.jiff_core.specs.DateTime.{civil_nanos}
use Rattle.asn1_core.specs.Moment.{Moment, instant}
use Rattle.toml_format.specs.UtcInstant.{instant_of}
use Rattle.profile_params.specs.Certificates.{start_of}
use Rattle.rcgen_text.specs.Dates.{IsMidnight}

pos_is : (a b : ℕ) → pos a ≡ pos b → a ≡ b
pos_is a b e = cc

pub midnight_is : (year : ℤ) (m : Moment) → IsMidnight year 1 1 m → instant m ≡ instant_of (start_of year)
unfolding civil_nanos
midnight_is year m h = rw (h.0.0, pos_is m.local.date.month 1 h.0.1, pos_is m.local.date.day 1 h.0.2, h.1, h.2) refl
