-- What decisions answer.
use Rattle.std.specs.Prelude.{◌≡◌, ℕ, ℤ, Bool, false, ◌||◌, suc, cond, nat_lt, int_lt, nat_eq, List, Option, Some, None, Result, Ok, Err}
use Rattle.std.specs.Option.{option_or}
use Rattle.register_record.specs.Records.{State, number_of}
use Rattle.register_record.specs.Following.{list_fault, end_of_numbers}
use Rattle.register_record.specs.Lists.{base_number, entries}
use Rattle.register_record.specs.declared.event.Event.{Event}
use Rattle.register_record.specs.declared.event.Event.TheVariants as event
use Rattle.register_record.specs.declared.event.ListKind.{ListKind}
use Rattle.register_record.specs.declared.event.ListKind.TheVariants.{Complete}
use Rattle.register_record.specs.declared.event.Revocation.{Revocation}
use Rattle.register_record.specs.declared.list.NextList.{NextList}
use Rattle.register_record.specs.declared.refusal.Refusal.{Refusal}
use Rattle.register_record.specs.declared.refusal.Refusal.TheVariants as refusal
use Rattle.register_record.specs.declared.refusal.ListError.{ListError}
use Rattle.register_record.specs.declared.refusal.ListError.TheVariants.{Refused, OutOfMemory}

-- the event, unless there is a fault
abbrev pub unless : Option Refusal → Event → Result Event Refusal
unless None e = Ok e
unless (Some why) e = Err why

abbrev pub is_after : ℤ → Option ℤ → Bool
is_after now None = false
is_after now (Some time) = int_lt now time

abbrev pub revocation_is_ahead : ℤ → Revocation → Bool
revocation_is_ahead now r = int_lt now r.time || is_after now r.invalidity_date

-- It says of something that it happened after `now`: a revocation, a loss of validity, a release, or the issue of a list (RFC 5280, 5.1.2.4, 5.3.2).
-- The end of a validity and a next update may lie ahead.
abbrev pub is_ahead : ℤ → Event → Bool
is_ahead now (event.Issuer certificate) = false
is_ahead now (event.Reserved serial kind not_after message) = false
is_ahead now (event.Sealed serial octets) = false
is_ahead now (event.Revoked serial revocation) = revocation_is_ahead now revocation
is_ahead now (event.MadeFinal serial revocation) = revocation_is_ahead now revocation
is_ahead now (event.Released serial time) = int_lt now time
is_ahead now (event.ListReserved number kind this_update next_update message) = int_lt now this_update
is_ahead now (event.ListSealed number octets) = false

-- what is wrong, or else that it lies ahead
abbrev pub unless_ahead : Bool → Option Refusal → Option Refusal
unless_ahead ahead fault = option_or fault (cond ahead (Some refusal.Ahead) None)

-- the event, unless there is a fault, or it lies ahead
abbrev pub decided : ℤ → Option Refusal → Event → Result Event Refusal
decided now fault e = unless (unless_ahead (is_ahead now e) fault) e

-- the number of the next list
abbrev pub next_number : State → ℕ
next_number s = suc (number_of s.last)

-- why there is no next list of this kind and these times
abbrev pub next_fault : ListKind → ℤ → ℤ → State → Option Refusal
next_fault kind this_update next_update s =
    cond (nat_lt (next_number s) end_of_numbers) (list_fault kind this_update next_update s) (Some refusal.Full)

-- why a complete list that was issued before, of this number and these times, may not be the last one: a number is above that of each list before it
abbrev pub taken_fault : ℕ → ℤ → ℤ → State → Option Refusal
taken_fault number this_update next_update s =
    cond (nat_lt (number_of s.last) number)
    (cond (nat_lt number end_of_numbers) (list_fault Complete this_update next_update s) (Some refusal.Full)) (Some refusal.OldNumber)

-- the same, or that its time is after `now`
abbrev pub list_fault_at : ℤ → ListKind → ℤ → ℤ → State → Option Refusal
list_fault_at now kind this_update next_update s = unless_ahead (int_lt now this_update) (next_fault kind this_update next_update s)

-- the next list of this kind and these times: its number, its base and its entries, and how many events the record has
pub record IsNextList (l : NextList) (kind_is : ListKind) (this_is : ℤ) (next_is : ℤ) (s : State) : Type 0 where
  pub count : l.count ≡ s.count
  pub kind : l.kind ≡ kind_is
  pub this_update : l.this_update ≡ this_is
  pub next_update : l.next_update ≡ next_is
  pub number : l.number ≡ next_number s
  pub base : l.base ≡ base_number kind_is s.base
  pub entries : l.entries.items ≡ entries kind_is s

-- it is the fault, or memory ran out, which it may at any time
abbrev pub ExplainsNext : Option Refusal → ListError → Type 0
ExplainsNext fault (Refused why) = fault ≡ Some why
ExplainsNext fault OutOfMemory = Unit {0}

-- the list's number is taken for the message, unless an event came after the list was made
abbrev pub list_decided : ℤ → NextList → List ℕ → State → Result Event Refusal
list_decided now list message s =
    cond (nat_eq list.count s.count)
    (decided now (next_fault list.kind list.this_update list.next_update s)
    (event.ListReserved (next_number s) list.kind list.this_update list.next_update message)) (Err refusal.Stale)
