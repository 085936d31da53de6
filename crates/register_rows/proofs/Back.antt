-- What the row of an event reads as.
use Rattle.std.proofs.Common.{◌≡◌, ℕ, ℤ, List, Bool, true, Option, Some, None, refl, sym, ap, ◌∙◌, subst}
use Rattle.asn1_core.specs.Binds.{some_is}
use Rattle.sqlite_value.specs.Order.{Row}
use Rattle.asn1_core.specs.Twos.{is_shortest}
use Rattle.register_record.specs.declared.event.Event.{Event}
use Rattle.register_record.specs.declared.event.Event.TheVariants as event
use Rattle.register_record.specs.declared.event.Kind.{Kind}
use Rattle.register_record.specs.declared.event.Kind.TheVariants.{Certificate, AttributeCertificate}
use Rattle.register_record.specs.declared.event.ListKind.{ListKind}
use Rattle.register_record.specs.declared.event.ListKind.TheVariants.{Complete, Delta}
use Rattle.register_record.specs.declared.event.Reason.{Reason}
use Rattle.register_record.specs.declared.event.Reason.TheVariants as reason
use Rattle.register_record.specs.declared.event.Revocation.{Revocation}
use Rattle.std.specs.Prelude.{◌≢◌, pos}
use Rattle.register_rows.specs.Columns.{kind_number, list_kind_number, reason_number, time_or_null}
use Rattle.register_rows.specs.Reading.{event_in, kind_of, list_kind_of, reason_of, time_in}
use Rattle.register_rows.specs.Rows.{is_kept, row_of}

kind_back : (k : Kind) → kind_of (pos (kind_number k)) ≡ k
kind_back Certificate = refl
kind_back AttributeCertificate = refl

list_kind_back : (k : ListKind) → list_kind_of (pos (list_kind_number k)) ≡ k
list_kind_back Complete = refl
list_kind_back Delta = refl

reason_back : (r : Reason) → reason_of (pos (reason_number r)) ≡ r
reason_back reason.Unspecified = refl
reason_back reason.KeyCompromise = refl
reason_back reason.CaCompromise = refl
reason_back reason.AffiliationChanged = refl
reason_back reason.Superseded = refl
reason_back reason.CessationOfOperation = refl
reason_back reason.CertificateHold = refl
reason_back reason.PrivilegeWithdrawn = refl
reason_back reason.AaCompromise = refl

time_back : (o : Option ℤ) → time_in (time_or_null o) ≡ o
time_back None = refl
time_back (Some t) = refl

revocation_back : (r : Revocation) → record { time = r.time; reason = reason_of (pos (reason_number r.reason)); invalidity_date = time_in (time_or_null r.invalidity_date) } ≡ r
revocation_back r = λ i. record { time = r.time; reason = reason_back r.reason i; invalidity_date = time_back r.invalidity_date i }

pub reads_back : (n : ℕ) (e : Event) → is_kept e ≡ true → event_in (row_of n e) ≡ Some e
reads_back n (event.Issuer certificate) h = refl
reads_back n (event.Reserved serial kind not_after message) h = rw h (ap (λ k. Some (event.Reserved serial k not_after message)) (kind_back kind))
reads_back n (event.Sealed serial octets) h = rw h refl
reads_back n (event.Revoked serial r) h = rw h (ap (λ x. Some (event.Revoked serial x)) (revocation_back r))
reads_back n (event.MadeFinal serial r) h = rw h (ap (λ x. Some (event.MadeFinal serial x)) (revocation_back r))
reads_back n (event.Released serial time) h = rw h refl
reads_back n (event.ListReserved number kind this_update next_update message) h = ap (λ k. Some (event.ListReserved number k this_update next_update message)) (list_kind_back kind)
reads_back n (event.ListSealed number octets) h = refl

-- a row that reads as nothing is the row of no event
pub not_row : (n : ℕ) (row : Row) (e : Event) → event_in row ≡ None → is_kept e ≡ true → row ≢ row_of n e
not_row n row e none kept same = let h : None ≡ Some e = sym none ∙ ap event_in same ∙ reads_back n e kept in absurd (cc)

-- nor is one that differs from the row of what it reads as
pub other_row : (n : ℕ) (row : Row) (e f : Event) → event_in row ≡ Some f → (is_kept f ≡ true → row ≢ row_of n f) → is_kept e ≡ true → row ≢ row_of n e
other_row n row e f found differs kept same =
    let q : f ≡ e = some_is f e (sym found ∙ ap event_in same ∙ reads_back n e kept) in
    differs (subst (λ (x : Event). is_kept x ≡ true) (sym q) kept) (subst (λ (x : Event). row ≡ row_of n x) (sym q) same)
