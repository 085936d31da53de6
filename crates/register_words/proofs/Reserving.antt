-- What a reservation that is tried says of a serial number.
use Rattle.std.proofs.Common.{◌≡◌, List, ℕ, Option, Some, None, Result, Ok, Err, refl, ap, subst, ◌∙◌, sym}
use Rattle.register_record.specs.Decisions.{unless}
use Rattle.register_record.specs.Following.{reserved_fault}
use Rattle.register_record.specs.Records.{State}
use Rattle.register_record.specs.declared.event.Event.{Event}
use Rattle.register_record.specs.declared.refusal.Refusal.{Refusal}

none : (o : Option Refusal) (e f : Event) → Ok f ≡ unless o e → o ≡ None
none None e f h = refl
none (Some why) e f h = absurd (cc)

some : (o : Option Refusal) (e : Event) (why : Refusal) → Err why ≡ unless o e → o ≡ Some why
some None e why h = absurd (cc)
some (Some w) e why h = let same : w ≡ why = cc in ap Some same

pub may_reserve : (s : State) (copy serial : List ℕ) (e f : Event) → copy ≡ serial → Ok f ≡ unless (reserved_fault copy s) e → reserved_fault serial s ≡ None
may_reserve s copy serial e f same h = subst (λ x. reserved_fault x s ≡ None) same (none (reserved_fault copy s) e f h)

pub refused : (s : State) (copy serial number : List ℕ) (e : Event) (why : Refusal) → copy ≡ serial → serial ≡ number → Err why ≡ unless (reserved_fault copy s) e
    → reserved_fault number s ≡ Some why
refused s copy serial number e why same drawn h = subst (λ x. reserved_fault x s ≡ Some why) (same ∙ drawn) (some (reserved_fault copy s) e why h)
