-- The profile of an attribute certificate.
use Rattle.std.specs.Prelude.{ℕ, Bool, false, List, codes, Result, Ok}
use Rattle.toml_format.specs.AttributeCertificate.{holder, entry}
use Rattle.toml_format.specs.Hex.{from_hex}
use Rattle.certify_profile.specs.Issuer.{issuer}
use Rattle.toml_format.specs.Tables.{TableFormat, no_keys, ◌&◌, required, defaulted, table_of, fields}
use Rattle.toml_format.specs.TimeText.{TimestampView, date_time}
use Rattle.toml_format.specs.Values.{text_as, boolean, array_of}
use Rattle.certify_profile.specs.declared.attribute_certificate.AttributeCertificateProfile.{AttributeCertificateProfile}
use Rattle.toml_format.specs.declared.attribute_certificate.AttributeEntry.{AttributeEntry}
use Rattle.toml_format.specs.declared.attribute_certificate.AttributeHolder.{AttributeHolder}
use Rattle.certify_profile.specs.declared.issuer.IssuerTable.{IssuerTable}
use Rattle.toml_format.specs.declared.reason.Reason.{Reason}

-- the values at the keys, in order
abbrev pub AttributeCertificateValues : Type 0
AttributeCertificateValues =
    ((((((Unit {0} × AttributeHolder) × List ℕ) × TimestampView) × TimestampView) × List AttributeEntry) × IssuerTable) × Bool

unfoldable pub attribute_certificate_of : AttributeCertificateValues → Result AttributeCertificateProfile Reason
attribute_certificate_of values =
    let (values, authority_key_id) = values in
    let (values, issuer) = values in
    let (values, attributes) = values in
    let (values, not_after) = values in
    let (values, not_before) = values in
    let (values, serial) = values in
    let (_, holder) = values in
    Ok (record {
      holder = holder;
      serial = serial;
      not_before = not_before;
      not_after = not_after;
      attributes = attributes;
      issuer = issuer;
      authority_key_id = authority_key_id;
    })

unfoldable pub attribute_certificate_values : TableFormat AttributeCertificateValues
attribute_certificate_values =
    no_keys
    & required (codes "holder") (table_of holder)
    & required (codes "serial") (text_as from_hex)
    & required (codes "not_before") (text_as date_time)
    & required (codes "not_after") (text_as date_time)
    & required (codes "attributes") (array_of (table_of entry))
    & required (codes "issuer") (table_of issuer)
    & defaulted (codes "authority_key_id") boolean false

abbrev pub attribute_certificate : TableFormat AttributeCertificateProfile
attribute_certificate = fields attribute_certificate_values attribute_certificate_of
