-- The order of an attribute certificate (RFC 5755).
use Rattle.std.specs.Prelude.{ℕ, Bool, true, if◌then◌else◌, List, codes, Result, Ok, Err}
use Rattle.toml_format.specs.AttributeCertificate.{entry, holder}
use Rattle.toml_format.specs.Tables.{TableFormat, no_keys, ◌&◌, required, defaulted, table_of, fields}
use Rattle.toml_format.specs.Values.{text_as, boolean, array_of}
use Rattle.toml_format.specs.declared.attribute_certificate.AttributeEntry.{AttributeEntry}
use Rattle.toml_format.specs.declared.attribute_certificate.AttributeHolder.{AttributeHolder}
use Rattle.toml_format.specs.declared.reason.Reason.{Reason}
use Rattle.toml_format.specs.declared.reason.Reason.TheVariants.{WrongValue}
use Rattle.shelf_profile.specs.Serial.{is_serial, serial}
use Rattle.shelf_profile.specs.Signing.{signing}
use Rattle.shelf_profile.specs.Validity.{validity}
use Rattle.shelf_profile.specs.declared.attribute_certificate.AttributeOrder.{AttributeOrder}
use Rattle.shelf_profile.specs.declared.signing.Signing.{Signing}
use Rattle.shelf_profile.specs.declared.validity.Validity.{Validity}

-- the values at the keys, in order
abbrev pub AttributeValues : Type 0
AttributeValues = (((((Unit {0} × Signing) × Validity) × AttributeHolder) × List ℕ) × List AttributeEntry) × Bool

-- the holder's certificate is one of such a serial number as certificates have
unfoldable pub attribute_of : AttributeValues → Result AttributeOrder Reason
attribute_of values =
    let (values, authority_key_id) = values in
    let (values, attributes) = values in
    let (values, serial) = values in
    let (values, holder) = values in
    let ((_, signing), validity) = values in
    if is_serial holder.serial then
    Ok (record {
      signing = signing;
      validity = validity;
      holder = holder;
      serial = serial;
      attributes = attributes;
      authority_key_id = authority_key_id;
    })
    else Err WrongValue

unfoldable pub attribute_values : TableFormat AttributeValues
attribute_values =
    no_keys
    & signing
    & validity
    & required (codes "holder") (table_of holder)
    & required (codes "serial") (text_as serial)
    & required (codes "attributes") (array_of (table_of entry))
    & defaulted (codes "authority_key_id") boolean true

abbrev pub attribute_certificate : TableFormat AttributeOrder
attribute_certificate = fields attribute_values attribute_of
