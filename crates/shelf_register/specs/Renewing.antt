-- What `renew` comes to on a record.
use Rattle.std.specs.Prelude.{◌≡◌, ℕ, ℤ, List, Option, Some, None}
use Rattle.register_record.specs.Following.{reserved_fault}
use Rattle.register_record.specs.Records.{State}
use Rattle.register_record.specs.declared.event.Event.{Event}
use Rattle.register_record.specs.declared.event.Event.TheVariants as event
use Rattle.register_record.specs.declared.event.Kind.TheVariants.{Certificate}
use Rattle.register_steps.specs.Renewal.{IsRenewed}
use Rattle.register_words.specs.Draw.{drawn}

-- the text is the message of a certificate like these octets, with a serial number that is drawn at random and isn't taken, and the event reserves it
pub record IsRenewal (s : State) (octets random : List ℕ) (e : Option Event) (text : List ℕ) : Type 0 where
  pub start : ℤ
  pub end : ℤ
  pub renewed : IsRenewed octets (drawn random) start end text
  pub free : reserved_fault (drawn random) s ≡ None
  pub event_is : e ≡ Some (event.Reserved (drawn random) Certificate end text)
