-- The steps of subcommands.
use Rattle.std.specs.Prelude.{◌≡◌, ℕ, ℤ, Bool, List, [], ◌∷◌, Option, Some}
use Rattle.std.proofs.Common.{inl, inr, subst}
use Rattle.register_record.specs.Records.{State}
use Rattle.register_record.specs.declared.event.Event.{Event}
use Rattle.register_record.specs.declared.event.Event.TheVariants as event
use Rattle.register_record.specs.declared.event.ListKind.{ListKind}
use Rattle.register_record.specs.declared.event.Reason.{Reason}
use Rattle.register_record.specs.declared.state.Certificate.{Certificate}
use Rattle.register_record.specs.declared.state.Content.TheVariants.{Sealed}
use Rattle.register_record.specs.declared.state.RevocationList.{RevocationList}
use Rattle.shelf_command.specs.RequestViews.{RequestView}
use Rattle.shelf_command.specs.declared.request.Action.TheVariants.{Run}
use Rattle.shelf_command.specs.declared.word.Word.TheVariants as filter
use Rattle.shelf_register.specs.Issued.{IsIssued}
use Rattle.shelf_register.specs.Listing.{IsListed}
use Rattle.shelf_register.specs.Naming.{IsNamed}
use Rattle.shelf_register.specs.Options.{kind_of, value_of}
use Rattle.shelf_register.specs.Renewing.{IsRenewal}
use Rattle.shelf_register.specs.Revoking.{Records, changed_status}
use Rattle.shelf_register.specs.Sealing.{SealsAs, label, list_label}
use Rattle.shelf_register.specs.Steps.{Has, IsList, IsRenew, IsRevoke, IsSeal, IsTbs}
use Rattle.shelf_register.specs.declared.options.Given.{Given}
use Rattle.shelf_register.specs.declared.options.Opt.TheVariants as opt

pub tbs : (request : RequestView) (s : State) (random order : List ℕ) (files inputs : List (List ℕ)) (e : Option Event) (text : List ℕ)
    → request.action ≡ Run filter.Tbs → inputs ≡ order ∷ files → IsIssued request s random order files e text → IsTbs s random inputs e text
tbs request s random order files inputs e text action are issued = record {
  request = request;
  action = action;
  order = order;
  files = files;
  inputs_are = are;
  issued = issued;
}

pub seal_of : (s : State) (c : Certificate) (is_der : Bool) (e : Option Event) (text : List ℕ) → Has c s.certificates
    → SealsAs s is_der (label c.kind) c.content (event.Sealed c.serial) e text → IsSeal s e text
seal_of s c is_der e text has seals = inl (c, has, record { is_der = is_der; seals = seals })

pub seal_of_list : (s : State) (l : RevocationList) (is_der : Bool) (e : Option Event) (text : List ℕ) → s.last ≡ Some l
    → SealsAs s is_der list_label l.content (event.ListSealed l.number) e text → IsSeal s e text
seal_of_list s l is_der e text is seals = inr (l, is, record { is_der = is_der; seals = seals })

pub revoke : (given : List Given) (s : State) (now : ℤ) (inputs : List (List ℕ)) (c : Certificate) (copy : List ℕ) (reason : Option Reason) (time : ℤ)
    (invalidity_date : Option ℤ) (e : Option Event) (text : List ℕ) → Has c s.certificates → IsNamed (value_of opt.Serial given) inputs c → copy ≡ c.serial
    → Records (changed_status s copy reason time invalidity_date now) e → text ≡ [] → IsRevoke given s now inputs e text
revoke given s now inputs c copy reason time invalidity_date e text has named same records nothing = record {
  certificate = c;
  has = has;
  named = named;
  reason = reason;
  time = time;
  invalidity_date = invalidity_date;
  records = subst (λ (serial : List ℕ). Records (changed_status s serial reason time invalidity_date now) e) same records;
  nothing = nothing;
}

pub list : (given : List Given) (request : RequestView) (s : State) (kind : ListKind) (this_update next_update clock now : ℤ) (more : List ℕ)
    (e : Option Event) (text : List ℕ) → request.action ≡ Run filter.Tbs → clock ≡ now → kind ≡ kind_of given
    → IsListed request s kind this_update next_update clock more e text → IsList given s now e text
list given request s kind this_update next_update clock now more e text action same is listed = record {
  request = request;
  action = action;
  this_update = this_update;
  next_update = next_update;
  more = more;
  listed =
      subst (λ (t : ℤ). IsListed request s (kind_of given) this_update next_update t more e text) same
      (subst (λ (k : ListKind). IsListed request s k this_update next_update clock more e text) is listed);
}

pub renew : (given : List Given) (s : State) (random octets : List ℕ) (inputs : List (List ℕ)) (former : Certificate) (e : Option Event) (text : List ℕ)
    → Has former s.certificates → IsNamed (value_of opt.Serial given) inputs former → former.content ≡ Sealed octets → IsRenewal s octets random e text
    → IsRenew given s random inputs e text
renew given s random octets inputs former e text has named is renewal =
    record { former = former; has = has; named = named; octets = octets; is_sealed = is; renewal = renewal }
