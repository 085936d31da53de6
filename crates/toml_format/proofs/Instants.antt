-- The instant of a moment, by what its text shows.
use Rattle.std.proofs.Common.{◌≡◌, refl, ap}
use Rattle.jiff_core.specs.DateTime.{civil_nanos}
use Rattle.asn1_core.specs.Moment.{Moment, instant, has_utc}
use Rattle.toml_format.specs.TimeView.{timestamp_view}
use Rattle.toml_format.specs.UtcInstant.{instant_of, has_utc_form}

pub instant_is : (m : Moment) → instant m ≡ instant_of (timestamp_view m)
unfolding civil_nanos
instant_is m = refl

pub utc_form_is : (m : Moment) → has_utc m ≡ has_utc_form (instant_of (timestamp_view m))
utc_form_is m = ap has_utc_form (instant_is m)

pub ruleset instants = (instant_is, utc_form_is)
