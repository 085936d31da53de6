-- The record that events give.
use Rattle.std.specs.Prelude.{ℕ, suc, ℤ, Bool, cond, List, [], ◌∷◌, ◌++◌, Option, Some, None}
use Rattle.std.specs.Str.{bytes_eq}
use Rattle.std.specs.Option.{option_map}
use Rattle.register_record.specs.declared.event.Event.{Event}
use Rattle.register_record.specs.declared.event.Event.TheVariants as event
use Rattle.register_record.specs.declared.event.ListKind.{ListKind}
use Rattle.register_record.specs.declared.event.ListKind.TheVariants.{Complete, Delta}
use Rattle.register_record.specs.declared.event.Revocation.{Revocation}
use Rattle.register_record.specs.declared.state.Base.{Base}
use Rattle.register_record.specs.declared.state.Certificate.{Certificate}
use Rattle.register_record.specs.declared.state.Change.{Change}
use Rattle.register_record.specs.declared.state.Change.TheVariants.{Revoked, Released}
use Rattle.register_record.specs.declared.state.Content.TheVariants.{Pending, Sealed}
use Rattle.register_record.specs.declared.state.RevocationList.{RevocationList}

-- the issuer's certificate; what serial numbers are reserved for, in order; the last list that was reserved; the last complete list that is sealed;
-- and how many events there are
pub record State : Type 0 where
  pub issuer : Option (List ℕ)
  pub certificates : List Certificate
  pub last : Option RevocationList
  pub base : Option Base
  pub count : ℕ

abbrev pub nothing : State
nothing = record { issuer = None; certificates = []; last = None; base = None; count = 0 }

abbrev pub has_serial : List ℕ → Certificate → Bool
has_serial serial c = bytes_eq c.serial serial

-- what is recorded under a serial number
abbrev pub found : List ℕ → List Certificate → Option Certificate
found serial [] = None
found serial (c ∷ cs) = cond (has_serial serial c) (Some c) (found serial cs)

-- the same with what is recorded under the serial number changed
abbrev pub changed : List ℕ → (Certificate → Certificate) → List Certificate → List Certificate
changed serial f [] = []
changed serial f (c ∷ cs) = cond (has_serial serial c) (f c ∷ cs) (c ∷ changed serial f cs)

-- the number of the last list that was reserved, or 0
abbrev pub number_of : Option RevocationList → ℕ
number_of None = 0
number_of (Some l) = l.number

-- a certificate has these octets
abbrev pub sealed_as : List ℕ → Certificate → Certificate
sealed_as octets c = record c { content = Sealed octets }

-- its status changed after the list with this number was reserved, and before a later one
abbrev pub changed_to : Change → ℕ → Certificate → Certificate
changed_to change number c = record c { change = Some change; since = number }

-- the revocation, with the time of the hold before it (X.509, reason code extension)
abbrev pub in_place_of : Option Change → Revocation → Revocation
in_place_of None r = r
in_place_of (Some (Released time)) r = r
in_place_of (Some (Revoked hold)) r = record r { time = hold.time }

abbrev pub made_final : Revocation → ℕ → Certificate → Certificate
made_final r number c = changed_to (Revoked (in_place_of c.change r)) number c

abbrev pub list_sealed : List ℕ → RevocationList → RevocationList
list_sealed octets l = record l { content = Sealed octets }

-- the base after a list of this kind, with this number and time, is sealed
abbrev pub base_after : ListKind → ℕ → ℤ → Option Base → Option Base
base_after Complete number this_update base = Some (record { number = number; this_update = this_update })
base_after Delta number this_update base = base

abbrev pub base_with : Option RevocationList → Option Base → Option Base
base_with None base = base
base_with (Some l) base = base_after l.kind l.number l.this_update base

-- what one more event changes
abbrev pub with_event : State → Event → State
with_event s (event.Issuer certificate) = record s { issuer = Some certificate }
with_event s (event.Reserved serial kind not_after message) = record s {
  certificates = s.certificates ++ record {
    serial = serial;
    kind = kind;
    not_after = not_after;
    content = Pending message;
    change = None;
    since = 0;
  } ∷ [];
}
with_event s (event.Sealed serial octets) = record s { certificates = changed serial (sealed_as octets) s.certificates }
with_event s (event.Revoked serial revocation) =
    record s { certificates = changed serial (changed_to (Revoked revocation) (number_of s.last)) s.certificates }
with_event s (event.MadeFinal serial revocation) =
    record s { certificates = changed serial (made_final revocation (number_of s.last)) s.certificates }
with_event s (event.Released serial time) =
    record s { certificates = changed serial (changed_to (Released time) (number_of s.last)) s.certificates }
with_event s (event.ListReserved number kind this_update next_update message) = record s {
  last = Some (record {
    number = number;
    kind = kind;
    this_update = this_update;
    next_update = next_update;
    content = Pending message;
  });
}
with_event s (event.ListSealed number octets) = record s {
  last = option_map (list_sealed octets) s.last;
  base = base_with s.last s.base;
}

-- the state after one more event
abbrev pub after : State → Event → State
after s e = record (with_event s e) { count = suc s.count }

-- the state after events
abbrev pub run : State → List Event → State
run s [] = s
run s (e ∷ es) = run (after s e) es

-- the record of events
abbrev pub record_of : List Event → State
record_of = run nothing
