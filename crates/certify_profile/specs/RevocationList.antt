-- The profile of a revocation list: what it is to say, and who issues it.
use Rattle.std.specs.Prelude.{codes, Result, Ok}
use Rattle.certify_profile.specs.Issuer.{issuer}
use Rattle.toml_format.specs.RevocationList.{content}
use Rattle.toml_format.specs.Tables.{TableFormat, no_keys, ◌&◌, required, table_of, fields}
use Rattle.certify_profile.specs.declared.issuer.IssuerTable.{IssuerTable}
use Rattle.toml_format.specs.declared.reason.Reason.{Reason}
use Rattle.toml_format.specs.declared.revocation_list.ListContent.{ListContent}
use Rattle.certify_profile.specs.declared.revocation_list.ListProfile.{ListProfile}

-- the values at the keys, in order
abbrev pub ListValues : Type 0
ListValues = (Unit {0} × IssuerTable) × ListContent

unfoldable pub list_of : ListValues → Result ListProfile Reason
list_of ((_, issuer), content) = Ok (record { issuer = issuer; content = content })

unfoldable pub list_values : TableFormat ListValues
list_values =
    no_keys
    & required (codes "issuer") (table_of issuer)
    & content

abbrev pub revocation_list : TableFormat ListProfile
revocation_list = fields list_values list_of
