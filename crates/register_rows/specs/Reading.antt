-- The one event that a row can be of.
use Rattle.std.specs.Prelude.{ℕ, suc, ℤ, pos, negsuc, Bool, cond, List, Option, Some, None}
use Rattle.std.specs.Option.{option_map}
use Rattle.std.specs.Ordering.{int_eq}
use Rattle.sqlite_value.specs.declared.value.Value.{Value}
use Rattle.sqlite_value.specs.declared.value.Value.TheVariants.{Null, Int, Real, Text, Blob}
use Rattle.sqlite_value.specs.Order.{Row, column, bytes}
use Rattle.asn1_core.specs.Twos.{is_shortest}
use Rattle.register_record.specs.declared.event.Event.{Event}
use Rattle.register_record.specs.declared.event.Event.TheVariants as event
use Rattle.register_record.specs.declared.event.Kind.{Kind}
use Rattle.register_record.specs.declared.event.Kind.TheVariants.{Certificate, AttributeCertificate}
use Rattle.register_record.specs.declared.event.ListKind.{ListKind}
use Rattle.register_record.specs.declared.event.ListKind.TheVariants.{Complete, Delta}
use Rattle.register_record.specs.declared.event.Reason.{Reason}
use Rattle.register_record.specs.declared.event.Reason.TheVariants as reason
use Rattle.register_record.specs.declared.event.Revocation.{Revocation}

abbrev pub integer : Value → ℤ
integer Null = pos 0
integer (Int n) = n
integer (Real x) = pos 0
integer (Text t) = pos 0
integer (Blob b) = pos 0

abbrev pub time_in : Value → Option ℤ
time_in Null = None
time_in (Int n) = Some n
time_in (Real x) = None
time_in (Text t) = None
time_in (Blob b) = None

-- or 0
abbrev pub natural : ℤ → ℕ
natural (pos n) = n
natural (negsuc n) = 0

abbrev pub kind_of : ℤ → Kind
kind_of n = cond (int_eq n (pos 0)) Certificate AttributeCertificate

abbrev pub list_kind_of : ℤ → ListKind
list_kind_of n = cond (int_eq n (pos 0)) Complete Delta

abbrev pub reason_of : ℤ → Reason
reason_of n =
    cond (int_eq n (pos 0)) reason.Unspecified
    (cond (int_eq n (pos 1)) reason.KeyCompromise
    (cond (int_eq n (pos 2)) reason.CaCompromise
    (cond (int_eq n (pos 3)) reason.AffiliationChanged
    (cond (int_eq n (pos 4)) reason.Superseded
    (cond (int_eq n (pos 5)) reason.CessationOfOperation
    (cond (int_eq n (pos 6)) reason.CertificateHold
    (cond (int_eq n (pos 9)) reason.PrivilegeWithdrawn reason.AaCompromise)))))))

abbrev pub octets_at : Row → ℕ → List ℕ
octets_at row at = bytes (column row at)

abbrev pub integer_at : Row → ℕ → ℤ
integer_at row at = integer (column row at)

abbrev pub serial_in : Row → Option (List ℕ)
serial_in row = cond (is_shortest (octets_at row 4)) (Some (octets_at row 4)) None

abbrev pub revocation_in : Row → Revocation
revocation_in row = record { time = integer_at row 6; reason = reason_of (integer_at row 3); invalidity_date = time_in (column row 7) }

abbrev pub reserved_in : Row → List ℕ → Event
reserved_in row serial = event.Reserved serial (kind_of (integer_at row 3)) (integer_at row 6) (octets_at row 8)

abbrev pub sealed_in : Row → List ℕ → Event
sealed_in row serial = event.Sealed serial (octets_at row 8)

abbrev pub revoked_in : Row → List ℕ → Event
revoked_in row serial = event.Revoked serial (revocation_in row)

abbrev pub made_final_in : Row → List ℕ → Event
made_final_in row serial = event.MadeFinal serial (revocation_in row)

abbrev pub released_in : Row → List ℕ → Event
released_in row serial = event.Released serial (integer_at row 6)

abbrev pub issuer_in : Row → Event
issuer_in row = event.Issuer (octets_at row 8)

abbrev pub list_reserved_in : Row → Event
list_reserved_in row =
    event.ListReserved (natural (integer_at row 5)) (list_kind_of (integer_at row 3)) (integer_at row 6) (integer_at row 7) (octets_at row 8)

abbrev pub list_sealed_in : Row → Event
list_sealed_in row = event.ListSealed (natural (integer_at row 5)) (octets_at row 8)

-- by the kind of event
abbrev pub event_of_kind : ℤ → Row → Option Event
event_of_kind kind row =
    cond (int_eq kind (pos 1)) (Some (issuer_in row))
    (cond (int_eq kind (pos 2)) (option_map (reserved_in row) (serial_in row))
    (cond (int_eq kind (pos 3)) (option_map (sealed_in row) (serial_in row))
    (cond (int_eq kind (pos 4)) (option_map (revoked_in row) (serial_in row))
    (cond (int_eq kind (pos 5)) (option_map (made_final_in row) (serial_in row))
    (cond (int_eq kind (pos 6)) (option_map (released_in row) (serial_in row))
    (cond (int_eq kind (pos 7)) (Some (list_reserved_in row))
    (cond (int_eq kind (pos 8)) (Some (list_sealed_in row)) None)))))))

-- the event whose row it is, if it is an event's row
abbrev pub event_in : Row → Option Event
event_in row = event_of_kind (integer_at row 2) row
