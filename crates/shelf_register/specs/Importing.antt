-- What `import` takes: revocations from an index of openssl ca or from a list, and a list.
use Rattle.std.specs.Prelude.{◌≡◌, ℕ, ℤ, Bool, true, false, ◌&&◌, cond, not, int_lt, nat_eq, List, Option, Some, None, Result, Ok, Err}
use Rattle.std.specs.List.{list_any}
use Rattle.std.specs.Ordering.{int_eq}
use Rattle.std.specs.Str.{bytes_eq}
use Rattle.register_record.specs.Decisions.{decided, taken_fault}
use Rattle.register_record.specs.Following.{is_revoked}
use Rattle.register_record.specs.Lists.{is_off}
use Rattle.register_record.specs.Records.{State}
use Rattle.register_record.specs.declared.event.Event.{Event}
use Rattle.register_record.specs.declared.event.Event.TheVariants as event
use Rattle.register_record.specs.declared.event.ListKind.TheVariants.{Complete}
use Rattle.register_record.specs.declared.event.Revocation.{Revocation}
use Rattle.register_record.specs.declared.refusal.Refusal.{Refusal}
use Rattle.register_record.specs.declared.refusal.Refusal.TheVariants.{AlreadyRevoked, Unknown}
use Rattle.register_record.specs.declared.state.Base.{Base}
use Rattle.register_record.specs.declared.state.Certificate.{Certificate}
use Rattle.register_record.specs.declared.state.Change.{Change}
use Rattle.register_record.specs.declared.state.Change.TheVariants.{Revoked, Released}
use Rattle.register_record.specs.declared.state.Content.{Content}
use Rattle.register_record.specs.declared.state.Content.TheVariants.{Pending, Sealed}
use Rattle.register_record.specs.declared.state.RevocationList.{RevocationList}
use Rattle.register_steps.specs.declared.listed.IssuedList.{IssuedList}
use Rattle.register_words.specs.Json.{reason_word}
use Rattle.shelf_register.specs.declared.importing.Lack.{Lack}
use Rattle.shelf_register.specs.declared.importing.Lack.TheVariants as lack
use Rattle.shelf_register.specs.declared.importing.Taken.{Taken}
use Rattle.shelf_register.specs.declared.importing.Taken.TheVariants as taken

-- a revocation that the record decides is recorded; one that is recorded already, or of a certificate that isn't there, has its own answer
abbrev pub Takes : Result Event Refusal → Taken → Type 0
Takes decision taken.Nothing = decision ≡ Err AlreadyRevoked
Takes decision taken.Unknown = decision ≡ Err Unknown
Takes decision (taken.Revocation e) = decision ≡ Ok e

-- ---- revocations that are recorded already

abbrev pub same_date : Option ℤ → Option ℤ → Bool
same_date None None = true
same_date None (Some b) = false
same_date (Some a) None = false
same_date (Some a) (Some b) = int_eq a b

-- the time, the reason and the invalidity date
abbrev pub is_same : Revocation → Revocation → Bool
is_same a b = int_eq a.time b.time && bytes_eq (reason_word a.reason) (reason_word b.reason) && same_date a.invalidity_date b.invalidity_date

abbrev pub agrees_with : Option Change → Revocation → Bool
agrees_with None r = true
agrees_with (Some (Released time)) r = true
agrees_with (Some (Revoked q)) r = is_same q r

-- what is revoked already is so by this revocation
abbrev pub agrees : Option Certificate → Revocation → Bool
agrees None r = true
agrees (Some c) r = agrees_with c.change r

-- ---- a list that was issued before

-- what is recorded of the last list, if that has the number
abbrev pub last_content : ℕ → Option RevocationList → Option Content
last_content n None = None
last_content n (Some l) = cond (nat_eq l.number n) (Some l.content) None

abbrev pub is_sealed_as : List ℕ → Option Content → Bool
is_sealed_as octets None = false
is_sealed_as octets (Some (Pending message)) = false
is_sealed_as octets (Some (Sealed sealed)) = bytes_eq sealed octets

abbrev pub is_pending_as : List ℕ → Option Content → Bool
is_pending_as message None = false
is_pending_as message (Some (Pending pending)) = bytes_eq pending message
is_pending_as message (Some (Sealed sealed)) = false

-- What is to be recorded of a list and its octets: nothing of one that is the last list already; its octets where its message is reserved; and both
-- where it may be the last list.
abbrev pub LacksList : State → IssuedList → List ℕ → ℤ → Lack → Type 0
LacksList s i octets now lack.Nothing = is_sealed_as octets (last_content i.number s.last) ≡ true
LacksList s i octets now (lack.Octets e) =
    (is_pending_as i.message (last_content i.number s.last) ≡ true) × (e ≡ event.ListSealed i.number octets)
LacksList s i octets now (lack.Both r e) =
    (decided now (taken_fault i.number i.this_update i.next_update s)
    (event.ListReserved i.number Complete i.this_update i.next_update i.message) ≡ Ok r)
    × (e ≡ event.ListSealed i.number octets)

-- the next complete list has the certificate, whose validity ended before this time
abbrev pub has_ended : Option Base → ℤ → Certificate → Bool
has_ended base time c = is_revoked c.change && not (is_off base c.since c.not_after) && int_lt c.not_after time

-- A list that is new takes no certificate off the lists that it may never have had.
abbrev pub EndsNothing : State → ℤ → Lack → Type 0
EndsNothing s time lack.Nothing = Unit {0}
EndsNothing s time (lack.Octets e) = list_any (has_ended s.base time) s.certificates ≡ false
EndsNothing s time (lack.Both r e) = list_any (has_ended s.base time) s.certificates ≡ false
