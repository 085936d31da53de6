-- What holds of every record.
use Rattle.std.specs.Prelude.{◌≡◌, ◌<◌, ◌≤◌, ℕ, ℤ, Bool, true, false, ◌&&◌, ◌||◌, ◌==◌, int_lt, length, List, [], ◌∷◌, ◌++◌, Option, Some, None, Ok, ◌↔◌}
use Rattle.std.specs.List.{Contains, filter, list_any}
use Rattle.std.specs.Option.{option_map}
use Rattle.std.specs.Str.{bytes_eq}
use Rattle.register_record.specs.Decisions.{decided, is_ahead, list_decided, next_fault, next_number, taken_fault}
use Rattle.register_record.specs.Following.{is_hold, is_serial, is_signed, may_follow, may_go_on}
use Rattle.register_record.specs.Lists.{entries, entry}
use Rattle.register_record.specs.Records.{State, found, nothing, number_of, record_of}
use Rattle.register_record.specs.declared.event.Event.{Event}
use Rattle.register_record.specs.declared.event.Event.TheVariants as event
use Rattle.register_record.specs.declared.event.Kind.{Kind}
use Rattle.register_record.specs.declared.event.ListKind.{ListKind}
use Rattle.register_record.specs.declared.event.ListKind.TheVariants.{Complete, Delta}
use Rattle.register_record.specs.declared.event.Revocation.{Revocation}
use Rattle.register_record.specs.declared.list.Entry.{Entry}
use Rattle.register_record.specs.declared.list.NextList.{NextList}
use Rattle.register_record.specs.declared.refusal.Refusal.{Refusal}
use Rattle.register_record.specs.declared.state.Base.{Base}
use Rattle.register_record.specs.declared.state.Change.TheVariants.{Revoked, Released}
use Rattle.register_record.specs.declared.state.Content.TheVariants.{Sealed}

abbrev pub is_record : List Event → Bool
is_record = may_go_on nothing

-- ---- which events are about a serial number or a list

abbrev pub reserves : List ℕ → Event → Bool
reserves s (event.Reserved serial kind not_after message) = bytes_eq serial s
reserves s _ = false

abbrev pub seals : List ℕ → Event → Bool
seals s (event.Sealed serial octets) = bytes_eq serial s
seals s _ = false

abbrev pub revokes : List ℕ → Event → Bool
revokes s (event.Revoked serial revocation) = bytes_eq serial s
revokes s _ = false

-- ends a hold, for good or ill
abbrev pub ends_hold : List ℕ → Event → Bool
ends_hold s (event.MadeFinal serial revocation) = bytes_eq serial s
ends_hold s (event.Released serial time) = bytes_eq serial s
ends_hold s _ = false

abbrev pub reserves_list : ℕ → Event → Bool
reserves_list n (event.ListReserved number kind this_update next_update message) = number == n
reserves_list n _ = false

abbrev pub seals_list : ℕ → Event → Bool
seals_list n (event.ListSealed number octets) = number == n
seals_list n _ = false

-- an entry of this serial number
abbrev pub is_of : List ℕ → Entry → Bool
is_of s e = bytes_eq e.serial s

-- one of these is a complete list of a time after the end, and is sealed
abbrev pub has_later_list : ℤ → List Event → Bool
has_later_list end [] = false
has_later_list end (event.ListReserved number Complete this_update next_update message ∷ es) =
    (int_lt end this_update && list_any (seals_list number) es) || has_later_list end es
has_later_list end (_ ∷ es) = has_later_list end es

-- ---- serial numbers

-- each is positive and has 20 octets at most (RFC 5280, 4.1.2.2)
abbrev pub AreSerials : Type 0
AreSerials = (before after : List Event) (serial : List ℕ) (kind : Kind) (end : ℤ) (message : List ℕ)
    → is_record (before ++ event.Reserved serial kind end message ∷ after) ≡ true → is_serial serial ≡ true

-- no serial number is reserved twice (RFC 5280, 4.1.2.2)
abbrev pub ReservesOnce : Type 0
ReservesOnce = (es : List Event) (serial : List ℕ) → is_record es ≡ true → length (filter (reserves serial) es) ≤ 1

-- nor sealed twice
abbrev pub SealsOnce : Type 0
SealsOnce = (es : List Event) (serial : List ℕ) → is_record es ≡ true → length (filter (seals serial) es) ≤ 1

-- what is issued was reserved before, and is of the message that was reserved
abbrev pub IssuesWhatWasReserved : Type 0
IssuesWhatWasReserved = (before after : List Event) (serial octets : List ℕ) → is_record (before ++ event.Sealed serial octets ∷ after) ≡ true
    → (kind : Kind) × (not_after : ℤ) × (message : List ℕ)
    × Contains before (event.Reserved serial kind not_after message) × (is_signed message octets ≡ true)

-- the octets that were sealed stay
abbrev pub KeepsOctets : Type 0
KeepsOctets = (before after : List Event) (serial octets : List ℕ) → is_record (before ++ event.Sealed serial octets ∷ after) ≡ true
    → option_map (λ c. c.content) (found serial (record_of (before ++ event.Sealed serial octets ∷ after)).certificates) ≡ Some (Sealed octets)

-- ---- lists

-- a list's number is above that of each list before it (RFC 5280, 5.2.3)
abbrev pub NumbersRise : Type 0
NumbersRise = (before between after : List Event) (m n : ℕ) (j k : ListKind) (a b c d : ℤ) (x y : List ℕ)
    → is_record ((before ++ event.ListReserved m j a b x ∷ between) ++ event.ListReserved n k c d y ∷ after) ≡ true → m < n

-- no list number is reserved twice, nor sealed twice
abbrev pub ListsOnce : Type 0
ListsOnce = (es : List Event) (n : ℕ) → is_record es ≡ true → (length (filter (reserves_list n) es) ≤ 1) × (length (filter (seals_list n) es) ≤ 1)

-- a list that is sealed was reserved before, and is of the message that was reserved
abbrev pub SealsReservedLists : Type 0
SealsReservedLists = (before after : List Event) (number : ℕ) (octets : List ℕ) → is_record (before ++ event.ListSealed number octets ∷ after) ≡ true
    → (kind : ListKind) × (this_update : ℤ) × (next_update : ℤ) × (message : List ℕ)
    × Contains before (event.ListReserved number kind this_update next_update message) × (is_signed message octets ≡ true)

-- What was revoked, and not made final or released since, is on the next complete list, with its time and reason, until a complete list after the
-- certificate's end has been sealed (RFC 5280, 3.3).
abbrev pub StaysListed : Type 0
StaysListed = (before between after : List Event) (serial : List ℕ) (r : Revocation) (kind : Kind) (end : ℤ) (message : List ℕ)
    → is_record ((before ++ event.Reserved serial kind end message ∷ between) ++ event.Revoked serial r ∷ after) ≡ true
    → list_any (ends_hold serial) after ≡ false → has_later_list end after ≡ false
    → Contains (entries Complete (record_of ((before ++ event.Reserved serial kind end message ∷ between) ++ event.Revoked serial r ∷ after)))
    (entry serial (Revoked r))

-- What was on hold and was made final is on it too, with the new reason and the time of the hold.
abbrev pub FinalStaysListed : Type 0
FinalStaysListed = (before between after : List Event) (serial : List ℕ) (r : Revocation) (kind : Kind) (end : ℤ) (message : List ℕ)
    → is_record ((before ++ event.Reserved serial kind end message ∷ between) ++ event.MadeFinal serial r ∷ after) ≡ true
    → has_later_list end after ≡ false
    → (hold : Revocation) × (is_hold hold.reason ≡ true) × Contains (before ++ event.Reserved serial kind end message ∷ between) (event.Revoked serial hold)
    × Contains (entries Complete (record_of ((before ++ event.Reserved serial kind end message ∷ between) ++ event.MadeFinal serial r ∷ after)))
    (entry serial (Revoked (record r { time = hold.time })))

-- what wasn't revoked is on no list
abbrev pub ListsTheRevoked : Type 0
ListsTheRevoked = (es : List Event) (kind : ListKind) (e : Entry) → is_record es ≡ true → Contains (entries kind (record_of es)) e
    → list_any (revokes e.serial) es ≡ true

-- a serial number has one entry of a list at most
abbrev pub ListedOnce : Type 0
ListedOnce = (es : List Event) (kind : ListKind) (serial : List ℕ) → is_record es ≡ true → length (filter (is_of serial) (entries kind (record_of es))) ≤ 1

-- what was on hold and was released, and not revoked since, is on no complete list
abbrev pub ReleasedIsOff : Type 0
ReleasedIsOff = (before after : List Event) (serial : List ℕ) (time : ℤ) → is_record (before ++ event.Released serial time ∷ after) ≡ true
    → list_any (revokes serial) after ≡ false → list_any (is_of serial) (entries Complete (record_of (before ++ event.Released serial time ∷ after))) ≡ false

-- What was revoked after the base was reserved, and not made final or released since, is on the next delta list (RFC 5280, 5.2.4).
abbrev pub RevokedInDelta : Type 0
RevokedInDelta = (before after : List Event) (serial : List ℕ) (r : Revocation) (b : Base)
    → is_record (before ++ event.Revoked serial r ∷ after) ≡ true → list_any (ends_hold serial) after ≡ false
    → (record_of (before ++ event.Revoked serial r ∷ after)).base ≡ Some b → b.number ≤ number_of (record_of before).last
    → Contains (entries Delta (record_of (before ++ event.Revoked serial r ∷ after))) (entry serial (Revoked r))

-- What was released after the base was reserved, and not revoked since, is there to be removed.
abbrev pub ReleasedInDelta : Type 0
ReleasedInDelta = (before after : List Event) (serial : List ℕ) (time : ℤ) (b : Base)
    → is_record (before ++ event.Released serial time ∷ after) ≡ true → list_any (revokes serial) after ≡ false
    → (record_of (before ++ event.Released serial time ∷ after)).base ≡ Some b → b.number ≤ number_of (record_of before).last
    → Contains (entries Delta (record_of (before ++ event.Released serial time ∷ after))) (entry serial (Released time))

-- ---- decisions

-- the next list's number may be taken exactly where there is no fault
abbrev pub NextMayFollow : Type 0
NextMayFollow = (s : State) (kind : ListKind) (this_update next_update : ℤ) (message : List ℕ)
    → (next_fault kind this_update next_update s ≡ None) ↔ (may_follow s (event.ListReserved (next_number s) kind this_update next_update message) ≡ true)

-- a list that was issued before may be the last one exactly where there is no fault
abbrev pub TakenMayFollow : Type 0
TakenMayFollow = (s : State) (number : ℕ) (this_update next_update : ℤ) (message : List ℕ)
    → (taken_fault number this_update next_update s ≡ None)
    ↔ (may_follow s (event.ListReserved number Complete this_update next_update message) ≡ true)

-- a record counts its events
abbrev pub CountsEvents : Type 0
CountsEvents = (es : List Event) → (record_of es).count ≡ length es

-- A list that was made of a record is reserved in no other that follows it, so what is recorded before its number is taken was there when it was made.
abbrev pub ListedNow : Type 0
ListedNow = (before more : List Event) (list : NextList) (now : ℤ) (message : List ℕ) (e : Event) → list.count ≡ (record_of before).count
    → list_decided now list message (record_of (before ++ more)) ≡ Ok e → more ≡ []

-- no decision says of something that it happened after `now`
abbrev pub NothingAhead : Type 0
NothingAhead = (now : ℤ) (fault : Option Refusal) (e f : Event) → decided now fault e ≡ Ok f → (f ≡ e) × (is_ahead now f ≡ false)
