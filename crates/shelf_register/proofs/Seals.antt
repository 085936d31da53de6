-- What is sealed.
use Rattle.std.proofs.Common.{◌≡◌, ℕ, Bool, List, Option, Some, None, Ok, refl, ap, ◌∙◌}
use Rattle.register_record.specs.Records.{State}
use Rattle.register_record.specs.declared.event.Event.{Event}
use Rattle.register_record.specs.declared.event.Event.TheVariants as event
use Rattle.register_record.specs.declared.state.Content.TheVariants.{Pending, Sealed}
use Rattle.register_steps.specs.Sealing.{IsSealed}
use Rattle.shelf_register.specs.Sealing.{IsSealedBy, SealsAs, text_of}

pub sealed_by : (s : State) (message octets issuer signature : List ℕ) → s.issuer ≡ Some issuer → IsSealed issuer message signature octets
    → IsSealedBy s message octets
sealed_by s message octets issuer signature has sealed = record { issuer = issuer; has_issuer = has; signature = signature; sealed = sealed }

pub certificate_seals : (s : State) (is_der : Bool) (label message serial copy octets taken view written text : List ℕ) (f : Event) (x : Option Event)
    → IsSealedBy s message octets → copy ≡ serial → taken ≡ octets → f ≡ event.Sealed copy taken → x ≡ Some f
    → view ≡ octets → written ≡ text_of is_der label view → text ≡ written → SealsAs s is_der label (Pending message) (event.Sealed serial) x text
certificate_seals s is_der label message serial copy octets taken view written text f x sealed same same_octets made is shows written_is text_is = record {
  octets = octets;
  seals = (sealed, rw (is, made, same, same_octets) refl);
  text_is = rw (text_is, written_is, shows) refl;
}

pub list_seals : (s : State) (is_der : Bool) (label named message octets taken view written text : List ℕ) (number : ℕ) (f : Event) (x : Option Event)
    → IsSealedBy s message octets → taken ≡ octets → f ≡ event.ListSealed number taken → x ≡ Some f → named ≡ label
    → view ≡ octets → written ≡ text_of is_der named view → text ≡ written → SealsAs s is_der label (Pending message) (event.ListSealed number) x text
list_seals s is_der label named message octets taken view written text number f x sealed same_octets made is named_is shows written_is text_is = record {
  octets = octets;
  seals = (sealed, rw (is, made, same_octets) refl);
  text_is = rw (text_is, written_is, shows, named_is) refl;
}

pub seals_again : (s : State) (is_der : Bool) (label before text : List ℕ) (e : List ℕ → Event) (recorded : Option Event)
    → recorded ≡ None → text ≡ text_of is_der label before → SealsAs s is_der label (Sealed before) e recorded text
seals_again s is_der label before text e recorded is text_is = record { octets = before; seals = (refl, is); text_is = text_is }
