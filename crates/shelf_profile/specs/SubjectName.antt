-- The name of a subject in an order.
use Rattle.std.specs.Prelude.{ℕ, Bool, ◌==◌, cond, drop, length, nat_eq, List, ◌++◌, codes, Option, Some, None, Result, Ok, Err}
use Rattle.std.specs.List.{starts_with}
use Rattle.name_parts.specs.Parts.{relative_name}
use Rattle.pkix_name.specs.declared.name.RelativeDistinguishedName.{RelativeDistinguishedName}
use Rattle.rcgen_text.specs.Names.{Entry}
use Rattle.toml_format.specs.Attribute.{attribute}
use Rattle.toml_format.specs.Outcome.{and_then}
use Rattle.toml_format.specs.Tables.{TableFormat, no_keys, ◌&◌, fields, optional}
use Rattle.toml_format.specs.Values.{array_of, text, text_as}
use Rattle.toml_format.specs.declared.issuer.Name.{Name}
use Rattle.toml_format.specs.declared.issuer.Name.TheVariants.{CommonName, Default, Subject}
use Rattle.toml_format.specs.declared.reason.Reason.{Reason}
use Rattle.toml_format.specs.declared.reason.Reason.TheVariants.{WrongValue}
use Rattle.shelf_profile.specs.declared.subject_name.SubjectName.{SubjectName}

-- ---- attributes as `TYPE=value` or `TYPE:KIND=value`

-- the country of a text that gives one without a kind
unfoldable pub country_in : List ℕ → Option (List ℕ)
country_in text = cond (starts_with nat_eq text (codes "C=")) (Some (drop 2 text)) None

abbrev pub attribute_or : Option Entry → List ℕ → Option Entry
attribute_or (Some found) given = Some found
attribute_or None given = attribute given

abbrev pub country_or : Option (List ℕ) → List ℕ → Option Entry
country_or (Some country) text = attribute_or (attribute (codes "C:printable=" ++ country)) text
country_or None text = attribute text

-- A country without a kind is a PrintableString where it has only that string's characters (RFC 5280, A.1: X520countryName).
unfoldable pub subject_attribute : List ℕ → Option Entry
subject_attribute text = country_or (country_in text) text

-- ---- the keys

abbrev pub plain_name : Option (List ℕ) → Option (List Entry) → Result Name Reason
plain_name (Some common_name) (Some subject) = Err WrongValue
plain_name (Some common_name) None = Ok (CommonName common_name)
plain_name None (Some subject) = Ok (Subject subject)
plain_name None None = Ok Default

-- the values at the keys, in order
abbrev pub SubjectNameValues : Type 0
SubjectNameValues = ((Unit {0} × Option (List ℕ)) × Option (List Entry)) × Option (List RelativeDistinguishedName)

abbrev pub has_no_part : List RelativeDistinguishedName → Bool
has_no_part parts = length parts == 0

-- parts, at least one, beside which nothing else says a name
abbrev pub said_alone : Name → List RelativeDistinguishedName → Result SubjectName Reason
said_alone Default parts = Ok (record { name = Default; parts = Some parts })
said_alone (CommonName _) parts = Err WrongValue
said_alone (Subject _) parts = Err WrongValue

abbrev pub name_of_parts : Name → List RelativeDistinguishedName → Result SubjectName Reason
name_of_parts name parts = cond (has_no_part parts) (Err WrongValue) (said_alone name parts)

abbrev pub name_by : Name → Option (List RelativeDistinguishedName) → Result SubjectName Reason
name_by name (Some parts) = name_of_parts name parts
name_by name None = Ok (record { name = name; parts = None })

unfoldable pub subject_name : SubjectNameValues → Result SubjectName Reason
subject_name (((_, common_name), subject), parts) = and_then (plain_name common_name subject) (λ name. name_by name parts)

unfoldable pub subject_name_values : TableFormat SubjectNameValues
subject_name_values =
    no_keys
    & optional (codes "common_name") text
    & optional (codes "subject") (array_of (text_as subject_attribute))
    & optional (codes "distinguished_name") (array_of (text_as relative_name))

abbrev pub subject_name_format : TableFormat SubjectName
subject_name_format = fields subject_name_values subject_name
