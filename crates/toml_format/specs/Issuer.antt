-- A name.
use Rattle.std.specs.Prelude.{ℕ, List, codes, Option, Some, None, Result, Ok, Err}
use Rattle.toml_format.specs.Attribute.{attribute}
use Rattle.toml_format.specs.Values.{text, text_as, array_of}
use Rattle.toml_format.specs.Tables.{TableFormat, no_keys, ◌&◌, optional, fields}
use Rattle.toml_format.specs.declared.attribute.Attribute.{Attribute}
use Rattle.toml_format.specs.declared.issuer.GivenName.{GivenName}
use Rattle.toml_format.specs.declared.issuer.Name.{Name}
use Rattle.toml_format.specs.declared.issuer.Name.TheVariants.{Default, CommonName, Subject}
use Rattle.toml_format.specs.declared.reason.Reason.{Reason}
use Rattle.toml_format.specs.declared.reason.Reason.TheVariants.{MissingKey, WrongValue}

-- the values at the keys, in order
abbrev pub NameValues : Type 0
NameValues = (Unit {0} × Option (List ℕ)) × Option (List Attribute)

-- at most one of the two
unfoldable pub one_name : NameValues → Result Name Reason
one_name ((_, Some common_name), Some subject) = Err WrongValue
one_name ((_, Some common_name), None) = Ok (CommonName common_name)
one_name ((_, None), Some subject) = Ok (Subject subject)
one_name ((_, None), None) = Ok Default

unfoldable pub name_values : TableFormat NameValues
name_values =
    no_keys
    & optional (codes "common_name") text
    & optional (codes "subject") (array_of (text_as attribute))

abbrev pub name : TableFormat Name
name = fields name_values one_name

-- a name that must be said
unfoldable pub given : Name → Result GivenName Reason
given Default = Err MissingKey
given name = Ok (record { name = name })

abbrev pub given_name : TableFormat GivenName
given_name = fields name given
