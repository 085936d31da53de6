-- A message whose serial number is reserved.
use Rattle.std.proofs.Common.{◌≡◌, ◌⊎◌, ℕ, ℤ, List, [], ◌∷◌, ◌++◌, Option, Some, None, Bool, true, codes, Result, Ok, Err, refl, ap, subst, ◌∙◌, sym}
use Rattle.command_run.specs.declared.status.Ending.{Ending}
use Rattle.command_run.specs.declared.status.Ending.TheVariants.{Done}
use Rattle.register_record.specs.Decisions.{unless}
use Rattle.register_record.specs.Following.{reserved_fault}
use Rattle.register_record.specs.Records.{State}
use Rattle.register_record.specs.declared.event.Event.{Event}
use Rattle.register_record.specs.declared.event.Event.TheVariants as event
use Rattle.register_record.specs.declared.event.Kind.{Kind}
use Rattle.register_record.specs.declared.refusal.Refusal.{Refusal}
use Rattle.register_steps.specs.Messages.{described}
use Rattle.shelf_command.specs.RequestViews.{RequestView}
use Rattle.shelf_core.specs.Answers.{answers}
use Rattle.shelf_register.specs.Issued.{AreAdded, IsIssued, IsPlain, IsSerialLine, IsStartLine, Reserves, key_line}

pub decided : (o : Option Refusal) (e f : Event) → Ok f ≡ unless o e → f ≡ e
decided None e f h = cc
decided (Some why) e f h = absurd (cc)

pub reserved : (serial text view message : List ℕ) (kind : Kind) (not_after : ℤ) (f : Event) (x : Option Event) → view ≡ text → message ≡ view
    → f ≡ event.Reserved serial kind not_after message → x ≡ Some f → x ≡ Some (event.Reserved serial kind not_after text)
reserved serial text view message kind not_after f x shows same made is = rw (is, made, same, shows) refl

pub free_as : (s : State) (serial number : List ℕ) → serial ≡ number → reserved_fault serial s ≡ None → reserved_fault number s ≡ None
free_as s serial number is free = subst (λ (x : List ℕ). reserved_fault x s ≡ None) is free

pub free : (o : Option Refusal) (e f : Event) → Ok f ≡ unless o e → o ≡ None
free None e f h = refl
free (Some why) e f h = absurd (cc)

pub reserves : (s : State) (message serial : List ℕ) (kind : Kind) (not_after : ℤ) (e : Option Event)
    → described message ≡ Some (record { kind = kind; serial = serial; not_after = not_after }) → reserved_fault serial s ≡ None
    → e ≡ Some (event.Reserved serial kind not_after message) → Reserves s message e
reserves s message serial kind not_after e says is_free is = record {
  serial = serial;
  kind = kind;
  not_after = not_after;
  says = says;
  free = is_free;
  event_is = is;
}

pub start_line : (time line : List ℕ) → line ≡ key_line (codes "start") time → IsStartLine true line
start_line time line is = (time, is)

pub added : (s : State) (random serial start lines : List ℕ) (lacks_serial lacks_start : Bool) → IsSerialLine lacks_serial s random serial
    → IsStartLine lacks_start start → lines ≡ serial ++ start → AreAdded s random lines
added s random serial start lines lacks_serial lacks_start serial_is start_is are = record {
  lacks_serial = lacks_serial;
  lacks_start = lacks_start;
  serial = serial;
  serial_is = serial_is;
  start = start;
  start_is = start_is;
  lines_are = are;
}

pub issued : (r : RequestView) (s : State) (random order plain lines issuer text told : List ℕ) (files inputs : List (List ℕ)) (ending : Ending) (e : Option Event)
    → AreAdded s random lines → IsPlain order plain → s.issuer ≡ Some issuer → inputs ≡ (lines ++ plain) ∷ (files ++ issuer ∷ []) → answers r inputs ending text told
    → ending ≡ Done → Reserves s text e → IsIssued r s random order files e text
issued r s random order plain lines issuer text told files inputs ending e added is_plain has is answer done is_reserved = record {
  lines = lines;
  added = added;
  plain = plain;
  is_plain = is_plain;
  issuer = issuer;
  has_issuer = has;
  told = told;
  answer = subst (λ (given : List (List ℕ)). answers r given Done text told) is (subst (λ (x : Ending). answers r inputs x text told) done answer);
  reserves = is_reserved;
}
