-- An event's JSON has no float.
use Rattle.std.proofs.Common.{◌≡◌, ℕ, ℤ, pos, Bool, false, ◌||◌, List, Option, Some, None, refl}
use Rattle.std.specs.Prelude.{negsuc}
use Rattle.serde_json.specs.Data.{Data}
use Rattle.serde_json.specs.Written.{has_float}
use Rattle.register_record.specs.declared.event.Event.{Event}
use Rattle.register_record.specs.declared.event.Event.TheVariants as event
use Rattle.register_words.specs.Json.{event_data, time_data, time_or_null}

plain_time : (t : ℤ) → has_float (time_data t) ≡ false
plain_time (pos n) = refl
plain_time (negsuc n) = refl

plain_option : (o : Option ℤ) → has_float (time_or_null o) ≡ false
plain_option None = refl
plain_option (Some t) = plain_time t

pub no_float : (e : Event) → has_float (event_data e) ≡ false
no_float (event.Issuer certificate) = refl
no_float (event.Reserved serial kind not_after message) = rw (plain_time not_after) refl
no_float (event.Sealed serial octets) = refl
no_float (event.Revoked serial r) = rw (plain_option r.invalidity_date, plain_time r.time) refl
no_float (event.MadeFinal serial r) = rw (plain_option r.invalidity_date, plain_time r.time) refl
no_float (event.Released serial time) = rw (plain_time time) refl
no_float (event.ListReserved n kind this_update next_update message) = rw (plain_time next_update, plain_time this_update) refl
no_float (event.ListSealed n octets) = refl
