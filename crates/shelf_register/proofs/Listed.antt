-- A list whose number is reserved.
use Rattle.std.proofs.Common.{◌≡◌, ℕ, ℤ, Bool, true, false, cond, nat_eq, List, [], ◌∷◌, Option, Some, None, Result, Ok, Err, refl, subst, sym}
use Rattle.command_run.specs.declared.status.Ending.{Ending}
use Rattle.command_run.specs.declared.status.Ending.TheVariants.{Done}
use Rattle.register_lines.specs.Lines.{IsListOrder}
use Rattle.register_lines.specs.declared.order.ListOrder.{ListOrder}
use Rattle.register_record.specs.Decisions.{IsNextList, list_decided, list_fault_at, next_number, unless}
use Rattle.register_record.specs.Records.{State}
use Rattle.register_record.specs.declared.event.Event.{Event}
use Rattle.register_record.specs.declared.event.Event.TheVariants as event
use Rattle.register_record.specs.declared.event.ListKind.{ListKind}
use Rattle.register_record.specs.declared.list.NextList.{NextList}
use Rattle.register_record.specs.declared.refusal.Refusal.{Refusal}
use Rattle.shelf_command.specs.RequestViews.{RequestView}
use Rattle.shelf_core.specs.Answers.{answers}
use Rattle.shelf_register.specs.Listing.{IsListed}

unless_is : (o : Option Refusal) (e f : Event) → Ok f ≡ unless o e → f ≡ e
unless_is None e f h = cc
unless_is (Some why) e f h = absurd (cc)

either : (b : Bool) (o : Option Refusal) (e f : Event) (why : Refusal) → Ok f ≡ cond b (unless o e) (Err why) → f ≡ e
either true o e f why h = unless_is o e f h
either false o e f why h = absurd (cc)

pub reservation : (now : ℤ) (list : NextList) (message : List ℕ) (s : State) (f : Event) → Ok f ≡ list_decided now list message s
    → f ≡ event.ListReserved (next_number s) list.kind list.this_update list.next_update message
reservation now list message s f h = either (nat_eq list.count s.count) _ _ f _ h

pub reserved : (list : NextList) (message view text : List ℕ) (number : ℕ) (f : Event) (x : Option Event) → view ≡ text → message ≡ view
    → f ≡ event.ListReserved number list.kind list.this_update list.next_update message → x ≡ Some f
    → x ≡ Some (event.ListReserved number list.kind list.this_update list.next_update text)
reserved list message view text number f x shows same made is = rw (is, made, same, shows) refl

pub listed : (r : RequestView) (s : State) (kind : ListKind) (this_update next_update now : ℤ) (more issuer text shown told : List ℕ) (list : NextList)
    (order : ListOrder) (ending : Ending) (e : Option Event)
    → list_fault_at now kind this_update next_update s ≡ None → IsNextList list kind this_update next_update s → IsListOrder list more order
    → s.issuer ≡ Some issuer → answers r (order.order.items ∷ order.revoked.items ∷ issuer ∷ []) ending text told → ending ≡ Done
    → e ≡ Some (event.ListReserved (next_number s) list.kind list.this_update list.next_update text) → shown ≡ text
    → IsListed r s kind this_update next_update now more e shown
listed r s kind this_update next_update now more issuer text shown told list order ending e free is order_is has answer done event_is same =
    let it : IsListed r s kind this_update next_update now more e text = record {
      free = free;
      list = list;
      list_is = is;
      order = order;
      order_is = order_is;
      issuer = issuer;
      has_issuer = has;
      told = told;
      answer = subst (λ (x : Ending). answers r (order.order.items ∷ order.revoked.items ∷ issuer ∷ []) x text told) done answer;
      event_is = rw (event_is, is.kind, is.this_update, is.next_update) refl;
    } in
    subst (λ (t : List ℕ). IsListed r s kind this_update next_update now more e t) (sym same) it
