-- Events as JSON (RFC 8259): octets and serial numbers in hexadecimal digits, times in seconds since 1970.
use Rattle.std.specs.Prelude.{ℕ, ℤ, List, codes, Option, Some, None}
use Rattle.hex.specs.Hex.{encode_lower}
use Rattle.serde_json.specs.Data.{Data, null, number, unsigned, string, object, member, no_members}
use Rattle.serde_json.specs.Find.{of_integer}
use Rattle.register_record.specs.declared.event.Event.{Event}
use Rattle.register_record.specs.declared.event.Event.TheVariants as event
use Rattle.register_record.specs.declared.event.Kind.{Kind}
use Rattle.register_record.specs.declared.event.Kind.TheVariants.{Certificate, AttributeCertificate}
use Rattle.register_record.specs.declared.event.ListKind.{ListKind}
use Rattle.register_record.specs.declared.event.ListKind.TheVariants.{Complete, Delta}
use Rattle.register_record.specs.declared.event.Reason.{Reason}
use Rattle.register_record.specs.declared.event.Reason.TheVariants as reason
use Rattle.register_record.specs.declared.event.Revocation.{Revocation}

abbrev pub kind_word : Kind → List ℕ
kind_word Certificate = codes "certificate"
kind_word AttributeCertificate = codes "attribute certificate"

abbrev pub list_word : ListKind → List ℕ
list_word Complete = codes "complete"
list_word Delta = codes "delta"

-- as RFC 5280, 5.3.1, has them
abbrev pub reason_word : Reason → List ℕ
reason_word reason.Unspecified = codes "unspecified"
reason_word reason.KeyCompromise = codes "keyCompromise"
reason_word reason.CaCompromise = codes "cACompromise"
reason_word reason.AffiliationChanged = codes "affiliationChanged"
reason_word reason.Superseded = codes "superseded"
reason_word reason.CessationOfOperation = codes "cessationOfOperation"
reason_word reason.CertificateHold = codes "certificateHold"
reason_word reason.PrivilegeWithdrawn = codes "privilegeWithdrawn"
reason_word reason.AaCompromise = codes "aACompromise"

abbrev pub octets_data : List ℕ → Data
octets_data octets = string (encode_lower octets)

abbrev pub time_data : ℤ → Data
time_data time = number (of_integer time)

abbrev pub number_data : ℕ → Data
number_data n = number (unsigned n)

abbrev pub time_or_null : Option ℤ → Data
time_or_null None = null
time_or_null (Some time) = time_data time

abbrev pub revocation_data : List ℕ → List ℕ → Revocation → Data
revocation_data word serial r = object
    (member (codes "event") (string word)
    (member (codes "invalidity_date") (time_or_null r.invalidity_date)
    (member (codes "reason") (string (reason_word r.reason))
    (member (codes "serial") (octets_data serial) (member (codes "time") (time_data r.time) no_members)))))

-- the members in the order of their names
abbrev pub event_data : Event → Data
event_data (event.Issuer certificate) = object
    (member (codes "event") (string (codes "issuer")) (member (codes "octets") (octets_data certificate) no_members))
event_data (event.Reserved serial kind not_after message) = object
    (member (codes "event") (string (codes "reserved"))
    (member (codes "kind") (string (kind_word kind))
    (member (codes "message") (octets_data message)
    (member (codes "not_after") (time_data not_after) (member (codes "serial") (octets_data serial) no_members)))))
event_data (event.Sealed serial octets) = object
    (member (codes "event") (string (codes "sealed"))
    (member (codes "octets") (octets_data octets) (member (codes "serial") (octets_data serial) no_members)))
event_data (event.Revoked serial r) = revocation_data (codes "revoked") serial r
event_data (event.MadeFinal serial r) = revocation_data (codes "made final") serial r
event_data (event.Released serial time) = object
    (member (codes "event") (string (codes "released"))
    (member (codes "serial") (octets_data serial) (member (codes "time") (time_data time) no_members)))
event_data (event.ListReserved n kind this_update next_update message) = object
    (member (codes "event") (string (codes "list reserved"))
    (member (codes "kind") (string (list_word kind))
    (member (codes "message") (octets_data message)
    (member (codes "next_update") (time_data next_update)
    (member (codes "number") (number_data n) (member (codes "this_update") (time_data this_update) no_members))))))
event_data (event.ListSealed n octets) = object
    (member (codes "event") (string (codes "list sealed"))
    (member (codes "number") (number_data n) (member (codes "octets") (octets_data octets) no_members)))
