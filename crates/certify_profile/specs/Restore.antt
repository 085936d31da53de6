-- The profile of an issuer that is restored from its certificate.
use Rattle.std.specs.Prelude.{ℕ, List, codes, Result, Ok}
use Rattle.certify_profile.specs.HexInput.{hex_input}
use Rattle.toml_format.specs.Tables.{TableFormat, no_keys, ◌&◌, required, fields}
use Rattle.toml_format.specs.Values.{text}
use Rattle.toml_format.specs.declared.reason.Reason.{Reason}
use Rattle.certify_profile.specs.declared.restore.RestoreProfile.{RestoreProfile}

-- the values at the keys, in order
abbrev pub RestoreValues : Type 0
RestoreValues = (Unit {0} × List ℕ) × List ℕ

unfoldable pub restore_of : RestoreValues → Result RestoreProfile Reason
restore_of ((_, secret), certificate) = Ok (record { secret = secret; certificate = certificate })

unfoldable pub restore_values : TableFormat RestoreValues
restore_values =
    no_keys
    & required (codes "secret") text
    & required (codes "certificate") hex_input

abbrev pub restore : TableFormat RestoreProfile
restore = fields restore_values restore_of
