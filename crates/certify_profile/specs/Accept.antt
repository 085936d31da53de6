-- The profile of a request that is accepted.
use Rattle.std.specs.Prelude.{ℕ, List, codes, Result, Ok}
use Rattle.certify_profile.specs.HexInput.{hex_input}
use Rattle.certify_profile.specs.Issuer.{issuer}
use Rattle.toml_format.specs.Tables.{TableFormat, no_keys, ◌&◌, required, table_of, fields}
use Rattle.toml_format.specs.Values.{text}
use Rattle.certify_profile.specs.declared.accept.AcceptProfile.{AcceptProfile}
use Rattle.certify_profile.specs.declared.issuer.IssuerTable.{IssuerTable}
use Rattle.toml_format.specs.declared.reason.Reason.{Reason}

-- the values at the keys, in order
abbrev pub AcceptValues : Type 0
AcceptValues = ((Unit {0} × List ℕ) × List ℕ) × IssuerTable

unfoldable pub accept_of : AcceptValues → Result AcceptProfile Reason
accept_of (((_, request), requester), issuer) = Ok (record { request = request; requester = requester; issuer = issuer })

unfoldable pub accept_values : TableFormat AcceptValues
accept_values =
    no_keys
    & required (codes "request") hex_input
    & required (codes "requester") text
    & required (codes "issuer") (table_of issuer)

abbrev pub accept : TableFormat AcceptProfile
accept = fields accept_values accept_of
