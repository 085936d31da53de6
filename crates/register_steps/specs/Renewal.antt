-- The message of a new certificate that says what an old one says.
use Rattle.std.specs.Prelude.{◌≡◌, ℕ, ℤ, false, ◌&&◌, List, None}
use Rattle.der_tree.specs.Form.{IsDerOf, value_of}
use Rattle.pkix_cert.specs.Certificates.{certificate as certificate_codec, tbs_certificate}
use Rattle.pkix_cert.specs.declared.certificate.Certificate.{Certificate}
use Rattle.pkix_cert.specs.declared.time.Validity.{Validity}
use Rattle.pkix_cert.specs.declared.time.Time.{Time}
use Rattle.rcgen_certificate.specs.WrittenTimes.{IsWrittenInstant}
use Rattle.register_lines.specs.Times.{has_year, nanoseconds}
use Rattle.register_steps.specs.declared.renewal.RenewError.{RenewError}
use Rattle.register_steps.specs.declared.renewal.RenewError.TheVariants as renew

-- so many seconds after the start of 1970, in the form that the year there asks for (4.1.2.5)
abbrev pub IsTimeOf : ℤ → Time → Type 0
IsTimeOf seconds t = IsWrittenInstant (nanoseconds seconds) t

-- the message is the DER of what is signed in the certificate, with this serial number and this validity, and all else as it is (RFC 5280, 4.1.2)
pub record IsRenewed (certificate serial : List ℕ) (not_before not_after : ℤ) (message : List ℕ) : Type 0 where
  pub old : Certificate
  pub old_form : IsDerOf certificate_codec old certificate
  pub validity : Validity
  pub first : IsTimeOf not_before validity.not_before
  pub last : IsTimeOf not_after validity.not_after
  pub form : IsDerOf tbs_certificate (record (old.tbs_certificate) { serial_number = serial; validity = validity }) message

-- why there is none: the octets are no certificate, or a time has no year of four digits
abbrev pub ExplainsRenewal : List ℕ → ℤ → ℤ → RenewError → Type 0
ExplainsRenewal certificate not_before not_after renew.NotCertificate = value_of certificate_codec certificate ≡ None
ExplainsRenewal certificate not_before not_after renew.Time = has_year not_before && has_year not_after ≡ false
ExplainsRenewal certificate not_before not_after renew.OutOfMemory = Unit {0}
