-- Lists that were issued before (RFC 5280, 5).
use Rattle.std.specs.Prelude.{◌≡◌, ℕ, ℤ, Bool, true, false, cond, find, map, nat_eq, ◌&&◌, not, is_none, List, [], ◌∷◌, Option, Some, None}
use Rattle.std.specs.Borrow.{Bor}
use Rattle.std.specs.Cmp.Lexicographic.{pointwise}
use Rattle.std.specs.List.{list_any}
use Rattle.std.specs.Option.{option_map}
use Rattle.asn1_core.specs.Binds.{◌>>=◌}
use Rattle.asn1_core.specs.Twos.{is_negative}
use Rattle.asn1_core.specs.Unsigned.{number_64}
use Rattle.der_tree.specs.Form.{value_of}
use Rattle.der_tree.specs.PrimitiveTypes.{generalized_time, integer}
use Rattle.jiff.specs.Words.{civil_seconds}
use Rattle.pkix_cert.specs.ExtensionIds.{ce_crl_number, ce_crl_reason, ce_delta_crl_indicator, ce_invalidity_date, ce_issuing_distribution_point, id_ce}
use Rattle.pkix_cert.specs.Held.{extensions_in}
use Rattle.pkix_cert.specs.Revocations.{crl_reason, tbs_cert_list}
use Rattle.pkix_cert.specs.Times.{moment_of}
use Rattle.pkix_cert.specs.Views.{certificate_parts}
use Rattle.pkix_cert.specs.declared.extension.Extension.{Extension}
use Rattle.pkix_cert.specs.declared.revocation.CrlReason.{CrlReason}
use Rattle.pkix_cert.specs.declared.revocation.CrlReason.TheVariants as crl
use Rattle.pkix_cert.specs.declared.revocation.RevokedCertificate.{RevokedCertificate}
use Rattle.pkix_cert.specs.declared.revocation.TbsCertList.{TbsCertList}
use Rattle.pkix_cert.specs.declared.time.Time.{Time}
use Rattle.register_record.specs.declared.event.Reason.{Reason}
use Rattle.register_record.specs.declared.event.Reason.TheVariants as reason
use Rattle.register_steps.specs.Names.{matches_subject, subject_in}
use Rattle.register_steps.specs.Sealing.{IsOpened}
use Rattle.register_steps.specs.declared.listed.ListedEntry.{ListedEntry}
use Rattle.register_steps.specs.declared.listed.IssuedList.{IssuedList}

-- ---- extensions

abbrev pub same_id : List ℕ → List ℕ → Bool
same_id = pointwise nat_eq

-- the first one with the identifier
abbrev pub extension_at : List ℕ → List Extension → Option Extension
extension_at id es = find (λ e. same_id e.extn_id id) es

-- it is critical, and isn't one of those that are looked at (RFC 5280, 5.2, 5.3)
abbrev pub is_critical_stranger : List (List ℕ) → Extension → Bool
is_critical_stranger known e = e.critical && not (list_any (λ id. same_id e.extn_id id) known)

-- ---- an entry (RFC 5280, 5.1.2.6, 5.3)

-- a complete list has no removeFromCRL (RFC 5280, 5.3.1)
abbrev pub reason_of : CrlReason → Option Reason
reason_of crl.Unspecified = Some reason.Unspecified
reason_of crl.KeyCompromise = Some reason.KeyCompromise
reason_of crl.CaCompromise = Some reason.CaCompromise
reason_of crl.AffiliationChanged = Some reason.AffiliationChanged
reason_of crl.Superseded = Some reason.Superseded
reason_of crl.CessationOfOperation = Some reason.CessationOfOperation
reason_of crl.CertificateHold = Some reason.CertificateHold
reason_of crl.RemoveFromCRL = None
reason_of crl.PrivilegeWithdrawn = Some reason.PrivilegeWithdrawn
reason_of crl.AaCompromise = Some reason.AaCompromise

abbrev pub reason_in : Option Extension → Option Reason
reason_in None = Some reason.Unspecified
reason_in (Some e) = value_of crl_reason e.extn_value >>= reason_of

-- the seconds since 1970 of the invalidity date, where there is one; None where it can't be read
abbrev pub date_in : Option Extension → Option (Option ℤ)
date_in None = Some None
date_in (Some e) = option_map (λ t. Some (civil_seconds t.at)) (value_of generalized_time e.extn_value)

abbrev pub listed : List ℕ → ℤ → Reason → Option ℤ → ListedEntry
listed serial time reason date = record { serial = serial; revocation = record { time = time; reason = reason; invalidity_date = date } }

abbrev pub known_of_entries : List (List ℕ)
known_of_entries = id_ce ce_crl_reason ∷ id_ce ce_invalidity_date ∷ []

-- a certificate of the list's issuer, since what names another one is critical (RFC 5280, 5.3.3)
abbrev pub entry_in : RevokedCertificate → Option ListedEntry
entry_in e =
    cond (list_any (is_critical_stranger known_of_entries) (extensions_in e.crl_entry_extensions)) None
    (reason_in (extension_at (id_ce ce_crl_reason) (extensions_in e.crl_entry_extensions)) >>= λ reason.
    date_in (extension_at (id_ce ce_invalidity_date) (extensions_in e.crl_entry_extensions)) >>= λ date.
    Some (listed e.user_certificate (civil_seconds (moment_of e.revocation_date)) reason date))

-- each of them, in order
abbrev pub AreListed : List RevokedCertificate → List ListedEntry → Type 0
AreListed [] [] = Unit {0}
AreListed [] (x ∷ xs) = ⊥
AreListed (e ∷ es) [] = ⊥
AreListed (e ∷ es) (x ∷ xs) = (entry_in e ≡ Some x) × AreListed es xs

-- ---- the list (RFC 5280, 5.1.2, 5.2)

-- a number below 2^64 from the contents octets of an INTEGER
abbrev pub small_number : List ℕ → Option ℕ
small_number octets = cond (is_negative octets) None (number_64 octets)

abbrev pub number_in : Option Extension → Option ℕ
number_in None = None
number_in (Some e) = value_of integer e.extn_value >>= small_number

abbrev pub seconds_of : Time → ℤ
seconds_of t = civil_seconds (moment_of t)

abbrev pub known_of_lists : List (List ℕ)
known_of_lists = id_ce ce_crl_number ∷ id_ce ce_issuing_distribution_point ∷ []

-- what a complete list says: it isn't a delta list (RFC 5280, 5.2.4), and all that is critical in it is known
pub record SaysOfList (t : TbsCertList) (i : IssuedList) : Type 0 where
  pub complete : is_none (extension_at (id_ce ce_delta_crl_indicator) (extensions_in t.crl_extensions)) ≡ true
  pub known : list_any (is_critical_stranger known_of_lists) (extensions_in t.crl_extensions) ≡ false
  pub number : number_in (extension_at (id_ce ce_crl_number) (extensions_in t.crl_extensions)) ≡ Some i.number
  pub this_update : i.this_update ≡ seconds_of t.this_update
  pub next_update : option_map seconds_of t.next_update ≡ Some i.next_update
  pub entries : AreListed t.revoked_certificates i.entries.items

-- the issuer's key made the signature of the list, which names the issuer, and this is what it says
pub record IsIssuedList (issuer octets : List ℕ) (i : IssuedList) : Type 0 where
  pub opened : IsOpened issuer octets i.message
  pub list : TbsCertList
  pub list_is : value_of tbs_cert_list i.message ≡ Some list
  pub named : matches_subject (subject_in (certificate_parts issuer)) list.issuer ≡ true
  pub says : SaysOfList list i
