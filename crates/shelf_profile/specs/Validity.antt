-- From when until when a certificate is valid (RFC 5280, 4.1.2.5).
use Rattle.std.specs.Prelude.{ℕ, codes, Option, Some, None, Result, Ok, Err}
use Rattle.toml_format.specs.Tables.{TableFormat, no_keys, ◌&◌, required, optional, fields}
use Rattle.toml_format.specs.TimeText.{TimestampView, date_time}
use Rattle.toml_format.specs.Values.{number_within, text_as}
use Rattle.toml_format.specs.declared.reason.Reason.{Reason}
use Rattle.toml_format.specs.declared.reason.Reason.TheVariants.{MissingKey, WrongValue}
use Rattle.shelf_profile.specs.declared.validity.End.TheVariants.{At, Days}
use Rattle.shelf_profile.specs.declared.validity.Validity.{Validity}

-- the values at the keys, in order
abbrev pub ValidityValues : Type 0
ValidityValues = ((Unit {0} × TimestampView) × Option ℕ) × Option TimestampView

-- exactly one of the two says when it ends
unfoldable pub validity_of : ValidityValues → Result Validity Reason
validity_of (((_, start), Some days), None) = Ok (record { start = start; end = Days days })
validity_of (((_, start), None), Some at) = Ok (record { start = start; end = At at })
validity_of (((_, start), Some days), Some at) = Err WrongValue
validity_of (((_, start), None), None) = Err MissingKey

-- days are of 86,400 seconds, up to a hundred years of them
unfoldable pub validity_values : TableFormat ValidityValues
validity_values =
    no_keys
    & required (codes "start") (text_as date_time)
    & optional (codes "days") (number_within 1 36525)
    & optional (codes "not_after") (text_as date_time)

abbrev pub validity : TableFormat Validity
validity = fields validity_values validity_of
