-- What `list` comes to on a record.
use Rattle.std.specs.Prelude.{◌≡◌, ℕ, ℤ, List, [], ◌∷◌, Option, Some, None}
use Rattle.command_run.specs.declared.status.Ending.TheVariants.{Done}
use Rattle.register_lines.specs.Lines.{IsListOrder}
use Rattle.register_lines.specs.declared.order.ListOrder.{ListOrder}
use Rattle.register_record.specs.Decisions.{IsNextList, list_fault_at, next_number}
use Rattle.register_record.specs.Records.{State}
use Rattle.register_record.specs.declared.event.Event.{Event}
use Rattle.register_record.specs.declared.event.Event.TheVariants as event
use Rattle.register_record.specs.declared.event.ListKind.{ListKind}
use Rattle.register_record.specs.declared.list.NextList.{NextList}
use Rattle.shelf_command.specs.RequestViews.{RequestView}
use Rattle.shelf_core.specs.Answers.{answers}

-- the text is what `shelf tbs` writes for the order of the next list, the lines of its entries and the issuer's certificate, and the event reserves
-- the list's number for it
pub record IsListed (r : RequestView) (s : State) (kind : ListKind) (this_update next_update now : ℤ) (more : List ℕ) (e : Option Event) (text : List ℕ) : Type 0 where
  pub free : list_fault_at now kind this_update next_update s ≡ None
  pub list : NextList
  pub list_is : IsNextList list kind this_update next_update s
  pub order : ListOrder
  pub order_is : IsListOrder list more order
  pub issuer : List ℕ
  pub has_issuer : s.issuer ≡ Some issuer
  pub told : List ℕ
  pub answer : answers r (order.order.items ∷ order.revoked.items ∷ issuer ∷ []) Done text told
  pub event_is : e ≡ Some (event.ListReserved (next_number s) kind this_update next_update text)
