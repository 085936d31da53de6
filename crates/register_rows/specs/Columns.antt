-- The columns of an event's row.
use Rattle.std.specs.Prelude.{ℕ, ℤ, pos, suc, List, [], ◌∷◌, Option, Some, None}
use Rattle.sqlite_value.specs.declared.value.Value.{Value}
use Rattle.sqlite_value.specs.declared.value.Value.TheVariants.{Null, Int, Blob}
use Rattle.sqlite_value.specs.Order.{Row}
use Rattle.register_record.specs.declared.event.Event.{Event}
use Rattle.register_record.specs.declared.event.Event.TheVariants as event
use Rattle.register_record.specs.declared.event.Kind.{Kind}
use Rattle.register_record.specs.declared.event.Kind.TheVariants.{Certificate, AttributeCertificate}
use Rattle.register_record.specs.declared.event.ListKind.{ListKind}
use Rattle.register_record.specs.declared.event.ListKind.TheVariants.{Complete, Delta}
use Rattle.register_record.specs.declared.event.Reason.{Reason}
use Rattle.register_record.specs.declared.event.Reason.TheVariants as reason
use Rattle.register_record.specs.declared.event.Revocation.{Revocation}

abbrev pub kind_number : Kind → ℕ
kind_number Certificate = 0
kind_number AttributeCertificate = 1

abbrev pub list_kind_number : ListKind → ℕ
list_kind_number Complete = 0
list_kind_number Delta = 1

-- the CRLReason (RFC 5280, 5.3.1)
abbrev pub reason_number : Reason → ℕ
reason_number reason.Unspecified = 0
reason_number reason.KeyCompromise = 1
reason_number reason.CaCompromise = 2
reason_number reason.AffiliationChanged = 3
reason_number reason.Superseded = 4
reason_number reason.CessationOfOperation = 5
reason_number reason.CertificateHold = 6
reason_number reason.PrivilegeWithdrawn = 9
reason_number reason.AaCompromise = 10

abbrev pub time_or_null : Option ℤ → Value
time_or_null None = Null
time_or_null (Some time) = Int time

-- the kind of event, its detail, the serial number, the number of a list, a time, a second time, and octets
abbrev pub revocation_columns : ℕ → List ℕ → Revocation → Row
revocation_columns kind serial r =
    Int (pos kind) ∷ Int (pos (reason_number r.reason)) ∷ Blob serial ∷ Null ∷ Int r.time ∷ time_or_null r.invalidity_date ∷ Null ∷ []

abbrev pub columns : Event → Row
columns (event.Issuer certificate) = Int (pos 1) ∷ Null ∷ Null ∷ Null ∷ Null ∷ Null ∷ Blob certificate ∷ []
columns (event.Reserved serial kind not_after message) =
    Int (pos 2) ∷ Int (pos (kind_number kind)) ∷ Blob serial ∷ Null ∷ Int not_after ∷ Null ∷ Blob message ∷ []
columns (event.Sealed serial octets) = Int (pos 3) ∷ Null ∷ Blob serial ∷ Null ∷ Null ∷ Null ∷ Blob octets ∷ []
columns (event.Revoked serial revocation) = revocation_columns 4 serial revocation
columns (event.MadeFinal serial revocation) = revocation_columns 5 serial revocation
columns (event.Released serial time) = Int (pos 6) ∷ Null ∷ Blob serial ∷ Null ∷ Int time ∷ Null ∷ Null ∷ []
columns (event.ListReserved number kind this_update next_update message) =
    Int (pos 7) ∷ Int (pos (list_kind_number kind)) ∷ Null ∷ Int (pos number) ∷ Int this_update ∷ Int next_update ∷ Blob message ∷ []
columns (event.ListSealed number octets) = Int (pos 8) ∷ Null ∷ Null ∷ Int (pos number) ∷ Null ∷ Null ∷ Blob octets ∷ []
