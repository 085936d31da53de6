-- What a certificate is to say.
use Rattle.std.specs.Prelude.{ℕ, Bool, false, List, codes, Option, Result, Ok}
use Rattle.toml_format.specs.AltName.{alt_name}
use Rattle.toml_format.specs.Arcs.{arcs}
use Rattle.toml_format.specs.Ca.{ca}
use Rattle.toml_format.specs.Values.{whole, text, text_as, boolean, array_of}
use Rattle.toml_format.specs.Hex.{from_hex}
use Rattle.toml_format.specs.Issuer.{name}
use Rattle.toml_format.specs.KeyId.{key_id}
use Rattle.toml_format.specs.KeyUsage.{key_usage}
use Rattle.toml_format.specs.Purpose.{purpose}
use Rattle.toml_format.specs.Subtree.{subtree}
use Rattle.toml_format.specs.Tables.{TableFormat, no_keys, ◌&◌, required, optional, defaulted, listed, table_of, fields}
use Rattle.toml_format.specs.TimeText.{TimestampView, date_time}
use Rattle.toml_format.specs.declared.alt_name.AltName.{AltName}
use Rattle.toml_format.specs.declared.purpose.Purpose.{Purpose}
use Rattle.toml_format.specs.declared.subtree.Subtree.{Subtree}
use Rattle.rcgen_text.specs.declared.basic_constraints.IsCa.{IsCa}
use Rattle.rcgen_text.specs.declared.basic_constraints.IsCa.TheVariants.{NoCa}
use Rattle.toml_format.specs.declared.certificate.CertificateContent.{CertificateContent}
use Rattle.toml_format.specs.declared.certificate.Constraints.{Constraints}
use Rattle.toml_format.specs.declared.certificate.ExtensionEntry.{ExtensionEntry}
use Rattle.toml_format.specs.declared.issuer.Name.{Name}
use Rattle.toml_format.specs.declared.key_id.KeyId.{KeyId}
use Rattle.toml_format.specs.declared.key_id.KeyId.TheVariants.{Sha256}
use Rattle.rcgen_text.specs.declared.key_usage.KeyUsagePurpose.{KeyUsagePurpose}
use Rattle.toml_format.specs.declared.reason.Reason.{Reason}

-- the values at the keys, in order
abbrev pub ExtensionValues : Type 0
ExtensionValues = ((Unit {0} × List ℕ) × List ℕ) × Bool

unfoldable pub extension_of : ExtensionValues → Result ExtensionEntry Reason
extension_of (((_, oid), content), critical) = Ok (record { oid = oid; content = content; critical = critical })

unfoldable pub extension_values : TableFormat ExtensionValues
extension_values =
    no_keys
    & required (codes "oid") (text_as arcs)
    & required (codes "content") (text_as from_hex)
    & defaulted (codes "critical") boolean false

abbrev pub extension : TableFormat ExtensionEntry
extension = fields extension_values extension_of

-- the values at the keys, in order
abbrev pub ConstraintsValues : Type 0
ConstraintsValues = (Unit {0} × Option (List Subtree)) × Option (List Subtree)

unfoldable pub constraints_of : ConstraintsValues → Result Constraints Reason
constraints_of ((_, permitted), excluded) = Ok (record { permitted = permitted; excluded = excluded })

unfoldable pub constraints_values : TableFormat ConstraintsValues
constraints_values =
    no_keys
    & optional (codes "permitted") (array_of (text_as subtree))
    & optional (codes "excluded") (array_of (text_as subtree))

abbrev pub constraints : TableFormat Constraints
constraints = fields constraints_values constraints_of

-- the values at the keys, in order
abbrev pub ContentValues : Type 0
ContentValues =
    ((((((((((((Unit {0} × Name) × Option TimestampView) × Option TimestampView) × Option (List ℕ)) × List AltName) × IsCa)
    × List KeyUsagePurpose) × List Purpose) × Constraints) × List (List (List ℕ))) × List ExtensionEntry) × Bool) × KeyId

unfoldable pub content_of : ContentValues → Result CertificateContent Reason
content_of values =
    let (values, key_id) = values in
    let (values, authority_key_id) = values in
    let (values, extensions) = values in
    let (values, crl_points) = values in
    let (values, constraints) = values in
    let (values, extended_key_usages) = values in
    let (values, key_usages) = values in
    let (values, ca) = values in
    let (values, alt_names) = values in
    let (values, serial) = values in
    let (values, not_after) = values in
    let (values, not_before) = values in
    let (_, name) = values in
    Ok (record {
      name = name;
      not_before = not_before;
      not_after = not_after;
      serial = serial;
      alt_names = alt_names;
      ca = ca;
      key_usages = key_usages;
      extended_key_usages = extended_key_usages;
      constraints = constraints;
      crl_points = crl_points;
      extensions = extensions;
      authority_key_id = authority_key_id;
      key_id = key_id;
    })

unfoldable pub content_values : TableFormat ContentValues
content_values =
    no_keys
    & name
    & optional (codes "not_before") (text_as date_time)
    & optional (codes "not_after") (text_as date_time)
    & optional (codes "serial") (text_as from_hex)
    & listed (codes "alt_names") (text_as alt_name)
    & defaulted (codes "ca") (whole ca) NoCa
    & listed (codes "key_usages") (text_as key_usage)
    & listed (codes "extended_key_usages") (text_as purpose)
    & constraints
    & listed (codes "crl_points") (array_of text)
    & listed (codes "extensions") (table_of extension)
    & defaulted (codes "authority_key_id") boolean false
    & defaulted (codes "key_id") (text_as key_id) Sha256

-- what the certificate is to say
abbrev pub content : TableFormat CertificateContent
content = fields content_values content_of
