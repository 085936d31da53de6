-- An issuer: its key's secret, its name, what its key may be used for, and how the key is identified.
use Rattle.std.specs.Prelude.{ℕ, List, codes, Result, Ok}
use Rattle.toml_format.specs.Issuer.{name}
use Rattle.toml_format.specs.Values.{text, text_as}
use Rattle.toml_format.specs.KeyId.{key_id}
use Rattle.toml_format.specs.KeyUsage.{key_usage}
use Rattle.toml_format.specs.Tables.{TableFormat, no_keys, ◌&◌, required, defaulted, listed, fields}
use Rattle.toml_format.specs.declared.issuer.Name.{Name}
use Rattle.certify_profile.specs.declared.issuer.IssuerTable.{IssuerTable}
use Rattle.toml_format.specs.declared.key_id.KeyId.{KeyId}
use Rattle.toml_format.specs.declared.key_id.KeyId.TheVariants.{Sha256}
use Rattle.rcgen_text.specs.declared.key_usage.KeyUsagePurpose.{KeyUsagePurpose}
use Rattle.toml_format.specs.declared.reason.Reason.{Reason}

-- the values at the keys, in order
abbrev pub IssuerValues : Type 0
IssuerValues = (((Unit {0} × List ℕ) × Name) × List KeyUsagePurpose) × KeyId

unfoldable pub issuer_of : IssuerValues → Result IssuerTable Reason
issuer_of ((((_, secret), name), key_usages), key_id) = Ok (record {
  secret = secret;
  name = name;
  key_usages = key_usages;
  key_id = key_id;
})

unfoldable pub issuer_values : TableFormat IssuerValues
issuer_values =
    no_keys
    & required (codes "secret") text
    & name
    & listed (codes "key_usages") (text_as key_usage)
    & defaulted (codes "key_id") (text_as key_id) Sha256

abbrev pub issuer : TableFormat IssuerTable
issuer = fields issuer_values issuer_of
