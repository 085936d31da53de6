-- The profile of a certificate: the subject's key, what the certificate is to say, and who issues it.
use Rattle.std.specs.Prelude.{ℕ, List, codes, Option, Result, Ok}
use Rattle.toml_format.specs.Certificate.{content}
use Rattle.toml_format.specs.Values.{text}
use Rattle.certify_profile.specs.Issuer.{issuer}
use Rattle.toml_format.specs.Tables.{TableFormat, no_keys, ◌&◌, required, optional, table_of, fields}
use Rattle.toml_format.specs.declared.certificate.CertificateContent.{CertificateContent}
use Rattle.certify_profile.specs.declared.certificate.CertificateProfile.{CertificateProfile}
use Rattle.certify_profile.specs.declared.issuer.IssuerTable.{IssuerTable}
use Rattle.toml_format.specs.declared.reason.Reason.{Reason}

-- the values at the keys, in order
abbrev pub CertificateValues : Type 0
CertificateValues = ((Unit {0} × List ℕ) × CertificateContent) × Option IssuerTable

unfoldable pub certificate_of : CertificateValues → Result CertificateProfile Reason
certificate_of (((_, secret), content), issuer) = Ok (record { secret = secret; content = content; issuer = issuer })

unfoldable pub certificate_values : TableFormat CertificateValues
certificate_values =
    no_keys
    & required (codes "secret") text
    & content
    & optional (codes "issuer") (table_of issuer)

abbrev pub certificate : TableFormat CertificateProfile
certificate = fields certificate_values certificate_of
