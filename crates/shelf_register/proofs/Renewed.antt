-- A certificate that is renewed.
use Rattle.std.proofs.Common.{◌≡◌, ℕ, ℤ, List, Option, Some, None, refl, subst, ◌∙◌}
use Rattle.register_record.specs.Following.{reserved_fault}
use Rattle.register_record.specs.Records.{State}
use Rattle.register_record.specs.declared.event.Event.{Event}
use Rattle.register_record.specs.declared.event.Event.TheVariants as event
use Rattle.register_record.specs.declared.event.Kind.TheVariants.{Certificate}
use Rattle.register_steps.specs.Renewal.{IsRenewed}
use Rattle.register_words.specs.Draw.{drawn}
use Rattle.shelf_register.specs.Renewing.{IsRenewal}

pub renewal : (s : State) (octets random serial copy message text : List ℕ) (start end : ℤ) (e : Option Event)
    → serial ≡ drawn random → copy ≡ serial → reserved_fault (drawn random) s ≡ None → IsRenewed octets copy start end message
    → e ≡ Some (event.Reserved serial Certificate end message) → text ≡ message → IsRenewal s octets random e text
renewal s octets random serial copy message text start end e is_drawn is_copy free renewed is text_is = record {
  start = start;
  end = end;
  renewed = rw (text_is) (subst (λ (x : List ℕ). IsRenewed octets x start end message) (is_copy ∙ is_drawn) renewed);
  free = free;
  event_is = rw (text_is, is, is_drawn) refl;
}
