-- The table of the extensions of an issued certificate (RFC 5280, 4.2.1).
use Rattle.std.specs.Prelude.{ℕ, Bool, List, ◌++◌, length, map, ◌==◌, ◌||◌, not, is_some}
use Rattle.rcgen_sign.specs.Keys.{Key, key_info_octets}
use Rattle.rcgen_certificate.specs.BasicConstraints.{basic_constraints_row}
use Rattle.rcgen_certificate.specs.CustomExtensions.{custom_row}
use Rattle.rcgen_certificate.specs.DistributionPoints.{crl_distribution_points_row}
use Rattle.rcgen_certificate.specs.ExtendedKeyUsages.{ext_key_usage_row}
use Rattle.rcgen_certificate.specs.ExtensionRows.{ExtensionRow}
use Rattle.rcgen_certificate.specs.Issuers.{IssuerView}
use Rattle.rcgen_certificate.specs.KeyIdentifiers.{authority_key_row, subject_key, subject_key_row}
use Rattle.rcgen_certificate.specs.KeyUsages.{key_usage_row}
use Rattle.rcgen_certificate.specs.NameConstraints.{name_constraints_row}
use Rattle.rcgen_certificate.specs.ParamsView.{ParamsView}
use Rattle.rcgen_certificate.specs.SubjectAltNames.{subject_alt_name_row}

-- the identifier of the subject's key, by the parameters' method
abbrev pub subject_id : ParamsView → Key → List ℕ
subject_id params subject = subject_key params.key_identifier_method (key_info_octets subject)

-- those that are present, in this order; alternative names are critical where the subject is empty (RFC 5280, 4.1.2.6)
abbrev pub extension_rows : ParamsView → Key → IssuerView → List ExtensionRow
extension_rows params subject issuer =
    authority_key_row params.use_authority_key_identifier_extension issuer.key_identifier
    ++ subject_alt_name_row (length params.distinguished_name == 0) params.subject_alt_names
    ++ key_usage_row params.key_usages
    ++ ext_key_usage_row params.extended_key_usages
    ++ name_constraints_row params.name_constraints
    ++ crl_distribution_points_row params.crl_distribution_points
    ++ subject_key_row params.is_ca (subject_id params subject)
    ++ basic_constraints_row params.is_ca
    ++ map custom_row params.custom_extensions

-- something is asked for that no request says: a serial number, name constraints, were they empty, a distribution point, or the identifier of
-- the issuer's key
abbrev pub has_no_place : ParamsView → Bool
has_no_place params =
    is_some params.serial_number || is_some params.name_constraints || not (length params.crl_distribution_points == 0)
    || params.use_authority_key_identifier_extension
