-- The profile of serial numbers that are looked up in a revocation list.
use Rattle.std.specs.Prelude.{ℕ, List, codes, Result, Ok}
use Rattle.certify_profile.specs.HexInput.{hex_input}
use Rattle.toml_format.specs.Tables.{TableFormat, no_keys, ◌&◌, required, fields}
use Rattle.toml_format.specs.Values.{array_of}
use Rattle.toml_format.specs.declared.reason.Reason.{Reason}
use Rattle.certify_profile.specs.declared.revoked_serials.RevokedProfile.{RevokedProfile}

-- the values at the keys, in order
abbrev pub RevokedValues : Type 0
RevokedValues = (Unit {0} × List ℕ) × List (List ℕ)

unfoldable pub revoked_of : RevokedValues → Result RevokedProfile Reason
revoked_of ((_, list), serials) = Ok (record { list = list; serials = serials })

unfoldable pub revoked_values : TableFormat RevokedValues
revoked_values =
    no_keys
    & required (codes "list") hex_input
    & required (codes "serials") (array_of hex_input)

abbrev pub revoked : TableFormat RevokedProfile
revoked = fields revoked_values revoked_of
