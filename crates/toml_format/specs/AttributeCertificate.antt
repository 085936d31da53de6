-- Who holds attributes, and what they are.
use Rattle.std.specs.Prelude.{ℕ, List, codes, Result, Ok}
use Rattle.toml_format.specs.Arcs.{arcs}
use Rattle.toml_format.specs.Hex.{from_hex}
use Rattle.toml_format.specs.Issuer.{given_name}
use Rattle.toml_format.specs.Tables.{TableFormat, no_keys, ◌&◌, required, fields}
use Rattle.toml_format.specs.Values.{text_as}
use Rattle.toml_format.specs.declared.attribute_certificate.AttributeEntry.{AttributeEntry}
use Rattle.toml_format.specs.declared.attribute_certificate.AttributeHolder.{AttributeHolder}
use Rattle.toml_format.specs.declared.issuer.GivenName.{GivenName}
use Rattle.toml_format.specs.declared.reason.Reason.{Reason}

-- the values at the keys, in order
abbrev pub HolderValues : Type 0
HolderValues = (Unit {0} × GivenName) × List ℕ

unfoldable pub holder_of : HolderValues → Result AttributeHolder Reason
holder_of ((_, given), serial) = Ok (record { name = given.name; serial = serial })

unfoldable pub holder_values : TableFormat HolderValues
holder_values =
    no_keys
    & given_name
    & required (codes "serial") (text_as from_hex)

abbrev pub holder : TableFormat AttributeHolder
holder = fields holder_values holder_of

-- the values at the keys, in order
abbrev pub EntryValues : Type 0
EntryValues = (Unit {0} × List ℕ) × List ℕ

unfoldable pub entry_of : EntryValues → Result AttributeEntry Reason
entry_of ((_, oid), values) = Ok (record { oid = oid; values = values })

unfoldable pub entry_values : TableFormat EntryValues
entry_values =
    no_keys
    & required (codes "oid") (text_as arcs)
    & required (codes "values") (text_as from_hex)

abbrev pub entry : TableFormat AttributeEntry
entry = fields entry_values entry_of
