-- The profile of a certification path that is checked.
use Rattle.std.specs.Prelude.{ℕ, ℤ, List, codes, Result, Ok}
use Rattle.certify_profile.specs.HexInput.{hex_input, joined_hex}
use Rattle.toml_format.specs.Tables.{TableFormat, no_keys, ◌&◌, required, fields}
use Rattle.toml_format.specs.UtcInstant.{utc_instant}
use Rattle.toml_format.specs.Values.{array_of, text, text_as}
use Rattle.certify_profile.specs.declared.check.CheckProfile.{CheckProfile}
use Rattle.toml_format.specs.declared.reason.Reason.{Reason}

-- the values at the keys, in order
abbrev pub CheckValues : Type 0
CheckValues = (((Unit {0} × List ℕ) × List ℕ) × ℤ) × List (List ℕ)

unfoldable pub check_of : CheckValues → Result CheckProfile Reason
check_of ((((_, chain), anchor), at), secrets) = Ok (record { chain = chain; anchor = anchor; at = at; secrets = secrets })

unfoldable pub check_values : TableFormat CheckValues
check_values =
    no_keys
    & required (codes "chain") joined_hex
    & required (codes "anchor") hex_input
    & required (codes "at") (text_as utc_instant)
    & required (codes "secrets") (array_of text)

abbrev pub check : TableFormat CheckProfile
check = fields check_values check_of
