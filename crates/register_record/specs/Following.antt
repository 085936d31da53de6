-- Which event may follow which: why an event may not follow a state, and what a record is.
use Rattle.std.specs.Prelude.{ℕ, ℤ, Bool, true, false, not, ◌&&◌, ◌+◌, ◌-◌, ◌*◌, ◌^◌, cond, nat_eq, nat_lt, nat_le, int_lt, length, get_or, drop, is_none, is_some, List, [], ◌∷◌, Option, Some, None, ◌==◌}
use Rattle.std.specs.List.{list_any, starts_with}
use Rattle.std.specs.Option.{option_or}
use Rattle.register_record.specs.Records.{State, found, number_of, after}
use Rattle.register_record.specs.declared.event.Event.{Event}
use Rattle.register_record.specs.declared.event.Event.TheVariants as event
use Rattle.register_record.specs.declared.event.ListKind.{ListKind}
use Rattle.register_record.specs.declared.event.ListKind.TheVariants.{Complete, Delta}
use Rattle.register_record.specs.declared.event.Reason.{Reason}
use Rattle.register_record.specs.declared.event.Reason.TheVariants.{CertificateHold}
use Rattle.register_record.specs.declared.event.Revocation.{Revocation}
use Rattle.register_record.specs.declared.refusal.Refusal.{Refusal}
use Rattle.register_record.specs.declared.refusal.Refusal.TheVariants as refusal
use Rattle.register_record.specs.declared.state.Base.{Base}
use Rattle.register_record.specs.declared.state.Certificate.{Certificate}
use Rattle.register_record.specs.declared.state.Change.{Change}
use Rattle.register_record.specs.declared.state.Change.TheVariants.{Revoked, Released}
use Rattle.register_record.specs.declared.state.Content.{Content}
use Rattle.register_record.specs.declared.state.Content.TheVariants.{Pending, Sealed}
use Rattle.register_record.specs.declared.state.RevocationList.{RevocationList}

-- ---- what is sealed

abbrev pub octet : List ℕ → ℕ → ℕ
octet octets at = get_or octets at 0

-- how many octets come before the contents octets: the identifier octet and the length octets, in the short form or the long one (X.690, 8.1.3.4,
-- 8.1.3.5)
abbrev pub header : List ℕ → ℕ
header octets = cond (nat_lt (octet octets 1) 128) 2 (2 + (octet octets 1 - 128))

-- how many contents octets the length octets say, of which the long form has four at most
abbrev pub length_in : List ℕ → Option ℕ
length_in octets =
    cond (nat_lt (octet octets 1) 128) (Some (octet octets 1))
    (cond (nat_eq (octet octets 1) 129) (Some (octet octets 2))
    (cond (nat_eq (octet octets 1) 130) (Some (octet octets 2 * 256 + octet octets 3))
    (cond (nat_eq (octet octets 1) 131) (Some ((octet octets 2 * 256 + octet octets 3) * 256 + octet octets 4))
    (cond (nat_eq (octet octets 1) 132) (Some (((octet octets 2 * 256 + octet octets 3) * 256 + octet octets 4) * 256 + octet octets 5)) None))))

abbrev pub ends_at : List ℕ → Option ℕ → Bool
ends_at octets None = false
ends_at octets (Some n) = nat_eq (length octets) (header octets + n)

abbrev pub contents : List ℕ → List ℕ
contents octets = drop (header octets) octets

-- one SEQUENCE (X.690, 8.9), and nothing after it
abbrev pub is_sequence : List ℕ → Bool
is_sequence octets = nat_eq (octet octets 0) 48 && ends_at octets (length_in octets)

-- one SEQUENCE whose first element is the message, itself a SEQUENCE, as SIGNED has it (X.509, 6.2.1)
abbrev pub is_signed : List ℕ → List ℕ → Bool
is_signed message octets = is_sequence message && is_sequence octets && starts_with nat_eq (contents octets) message

-- why these octets can't be what the signature made
abbrev pub sealing_fault : Content → List ℕ → Option Refusal
sealing_fault (Sealed octets) new = Some refusal.AlreadySealed
sealing_fault (Pending message) new = cond (is_signed message new) None (Some refusal.OtherMessage)

-- ---- what is revoked

abbrev pub is_hold : Reason → Bool
is_hold CertificateHold = true
is_hold _ = false

abbrev pub is_on_hold : Option Change → Bool
is_on_hold None = false
is_on_hold (Some (Released time)) = false
is_on_hold (Some (Revoked r)) = is_hold r.reason

abbrev pub is_revoked : Option Change → Bool
is_revoked None = false
is_revoked (Some (Released time)) = false
is_revoked (Some (Revoked r)) = true

abbrev pub issued_fault : Content → Option Refusal
issued_fault (Pending message) = Some refusal.NotIssued
issued_fault (Sealed octets) = None

-- the certificate is issued, and valid
abbrev pub revoked_fault : Certificate → Option Refusal
revoked_fault c = option_or (issued_fault c.content) (cond (is_revoked c.change) (Some refusal.AlreadyRevoked) None)

-- the certificate is on hold, and the reason isn't a hold again
abbrev pub final_fault : Revocation → Certificate → Option Refusal
final_fault r c = cond (is_on_hold c.change) (cond (is_hold r.reason) (Some refusal.AlreadyOnHold) None) (Some refusal.NotOnHold)

abbrev pub released_fault : Certificate → Option Refusal
released_fault c = cond (is_on_hold c.change) None (Some refusal.NotOnHold)

abbrev pub fault_if : (Certificate → Option Refusal) → Option Certificate → Option Refusal
fault_if fault None = Some refusal.Unknown
fault_if fault (Some c) = fault c

-- what is wrong with what is recorded under the serial number, which there has to be
abbrev pub fault_under : List ℕ → (Certificate → Option Refusal) → State → Option Refusal
fault_under serial fault s = fault_if fault (found serial s.certificates)

-- ---- lists

-- a list's time is after that of the list before it
abbrev pub is_later : ℤ → Option RevocationList → Bool
is_later time None = true
is_later time (Some l) = int_lt l.this_update time

-- a delta list has a base (RFC 5280, 5.2.4)
abbrev pub has_base : ListKind → Option Base → Bool
has_base Complete base = true
has_base Delta base = is_some base

-- list numbers stay below 2^63, as the register's file keeps them
abbrev pub end_of_numbers : ℕ
end_of_numbers = 2 ^ 63

-- why no list of this kind and these times may follow
abbrev pub list_fault : ListKind → ℤ → ℤ → State → Option Refusal
list_fault kind this_update next_update s =
    cond (is_none s.issuer) (Some refusal.NoIssuer)
    (cond (not (is_later this_update s.last)) (Some refusal.NotLater)
    (cond (not (int_lt this_update next_update)) (Some refusal.EndsBefore)
    (cond (not (has_base kind s.base)) (Some refusal.NoBase) None)))

abbrev pub list_sealing_fault : ℕ → List ℕ → Option RevocationList → Option Refusal
list_sealing_fault number octets None = Some refusal.OtherList
list_sealing_fault number octets (Some l) = cond (l.number == number) (sealing_fault l.content octets) (Some refusal.OtherList)

-- ---- events

abbrev pub is_not_zero : ℕ → Bool
is_not_zero octet = not (nat_eq octet 0)

-- a positive number of 20 octets at most (RFC 5280, 4.1.2.2), by its contents octets, the first bit of which is the sign (X.690, 8.3.3)
abbrev pub is_serial : List ℕ → Bool
is_serial serial = nat_lt (octet serial 0) 128 && list_any is_not_zero serial && nat_le (length serial) 20

-- why no serial number may be reserved
abbrev pub reserved_fault : List ℕ → State → Option Refusal
reserved_fault serial s =
    cond (is_none s.issuer) (Some refusal.NoIssuer)
    (cond (not (is_serial serial)) (Some refusal.NoSerialNumber)
    (cond (is_some (found serial s.certificates)) (Some refusal.Taken) None))

-- whether an event may follow: the issuer's certificate comes once, and all else after it; a serial number is positive and not too long, and reserved
-- once; sealed is what was reserved, once; revoked is what is issued and not revoked, made final or released what is on hold; list numbers rise (RFC 5280, 5.2.3), and so do
-- their times
abbrev pub may_follow : State → Event → Bool
may_follow s (event.Issuer certificate) = is_none s.issuer
may_follow s (event.Reserved serial kind not_after message) = is_none (reserved_fault serial s)
may_follow s (event.Sealed serial octets) = is_none (fault_under serial (λ c. sealing_fault c.content octets) s)
may_follow s (event.Revoked serial revocation) = is_none (fault_under serial revoked_fault s)
may_follow s (event.MadeFinal serial revocation) = is_none (fault_under serial (final_fault revocation) s)
may_follow s (event.Released serial time) = is_none (fault_under serial released_fault s)
may_follow s (event.ListReserved number kind this_update next_update message) =
    nat_lt (number_of s.last) number && nat_lt number end_of_numbers && is_none (list_fault kind this_update next_update s)
may_follow s (event.ListSealed number octets) = is_none (list_sealing_fault number octets s.last)

-- each event may follow the state after those before it
abbrev pub may_go_on : State → List Event → Bool
may_go_on s [] = true
may_go_on s (e ∷ es) = may_follow s e && may_go_on (after s e) es
