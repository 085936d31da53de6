-- The entries of a list of revoked certificates (RFC 5280, 5.1.2.6 and 5.3).
use Rattle.std.specs.Prelude.{◌≡◌, ℤ, ◌++◌, false, List, Option, Some, None, IsSomeAnd, MatchOption, option_and_then}
use Rattle.jiff.specs.Types.{DateTime}
use Rattle.asn1_core.specs.Moment.{Moment, instant}
use Rattle.asn1_core.specs.Twos.{unsigned}
use Rattle.asn1_core.specs.Written.{IsWholeSecond}
use Rattle.asn1_core.specs.declared.time.generalized_time.GeneralizedTime.{GeneralizedTime}
use Rattle.der_tree.specs.PrimitiveTypes.{generalized_time}
use Rattle.pkix_cert.specs.Revocations.{crl_reason}
use Rattle.pkix_cert.specs.declared.revocation.CrlReason.{CrlReason}
use Rattle.pkix_cert.specs.declared.revocation.CrlReason.TheVariants as written
use Rattle.pkix_cert.specs.declared.revocation.RevokedCertificate.{RevokedCertificate}
use Rattle.rcgen_certificate.specs.ExtensionRows.{ExtensionRow, extension_row, IsField}
use Rattle.pkix_cert.specs.ExtensionIds.{ce_crl_reason, ce_invalidity_date, id_ce}
use Rattle.rcgen_certificate.specs.WrittenTimes.{IsUtcOf, IsWrittenInstant}
use Rattle.rcgen_text.specs.declared.revocation_reason.RevocationReason.{RevocationReason}
use Rattle.rcgen_text.specs.declared.revocation_reason.RevocationReason.TheVariants as reason
use Rattle.rcgen_issue.specs.CrlView.{RevokedView}

-- the reason as it is written; none where it is unspecified (RFC 5280, 5.3.1)
abbrev pub written_reason : RevocationReason → Option CrlReason
written_reason reason.Unspecified = None
written_reason reason.KeyCompromise = Some written.KeyCompromise
written_reason reason.CaCompromise = Some written.CaCompromise
written_reason reason.AffiliationChanged = Some written.AffiliationChanged
written_reason reason.Superseded = Some written.Superseded
written_reason reason.CessationOfOperation = Some written.CessationOfOperation
written_reason reason.CertificateHold = Some written.CertificateHold
written_reason reason.RemoveFromCrl = Some written.RemoveFromCRL
written_reason reason.PrivilegeWithdrawn = Some written.PrivilegeWithdrawn
written_reason reason.AaCompromise = Some written.AaCompromise

-- the second in UTC in which the instant lies, as a GeneralizedTime in each year (RFC 5280, 5.3.2)
abbrev pub IsGeneralInstant : ℤ → GeneralizedTime → Type 0
IsGeneralInstant z t = (at : DateTime) × IsUtcOf z at × IsWholeSecond at t.at

abbrev pub IsGeneralMoment : Moment → GeneralizedTime → Type 0
IsGeneralMoment m t = IsGeneralInstant (instant m) t

-- the time of the instant, exactly where there is one
abbrev pub IsInvalidityDate : Option ℤ → Option GeneralizedTime → Type 0
IsInvalidityDate given date = MatchOption given (date ≡ None) (λ z. IsSomeAnd date (IsGeneralInstant z))

-- those that are present, in this order: the reason (RFC 5280, 5.3.1); the invalidity date (5.3.2)
abbrev pub entry_extension_rows : Option RevocationReason → Option GeneralizedTime → List ExtensionRow
entry_extension_rows reason_code date =
    extension_row (id_ce ce_crl_reason) false crl_reason (option_and_then written_reason reason_code)
    ++ extension_row (id_ce ce_invalidity_date) false generalized_time date

-- the entry of a revoked certificate
pub record IsEntry (params : RevokedView) (e : RevokedCertificate) : Type 0 where
  pub date : Option GeneralizedTime
  pub user_certificate : e.user_certificate ≡ unsigned params.serial_number
  pub revocation_date : IsWrittenInstant params.revocation_time e.revocation_date
  pub invalidity_date : IsInvalidityDate params.invalidity_date date
  pub extensions : IsField (entry_extension_rows params.reason_code date) e.crl_entry_extensions
