-- The profile of an authority and the commands to it.
use Rattle.std.specs.Prelude.{ℕ, List, codes, Result, Ok}
use Rattle.certify_profile.specs.AuthorityCommands.{command}
use Rattle.certify_profile.specs.Issuer.{issuer}
use Rattle.toml_format.specs.Tables.{TableFormat, no_keys, ◌&◌, required, defaulted, table_of, fields}
use Rattle.toml_format.specs.Values.{number_within, array_of}
use Rattle.certify_profile.specs.declared.authority.AuthorityProfile.{AuthorityProfile}
use Rattle.certify_profile.specs.declared.authority_command.AuthorityCommand.{AuthorityCommand}
use Rattle.certify_profile.specs.declared.issuer.IssuerTable.{IssuerTable}
use Rattle.toml_format.specs.declared.reason.Reason.{Reason}

-- the values at the keys, in order
abbrev pub AuthorityValues : Type 0
AuthorityValues = ((Unit {0} × IssuerTable) × ℕ) × List AuthorityCommand

unfoldable pub authority_of : AuthorityValues → Result AuthorityProfile Reason
authority_of (((_, issuer), limit), commands) = Ok (record { issuer = issuer; limit = limit; commands = commands })

unfoldable pub authority_values : TableFormat AuthorityValues
authority_values =
    no_keys
    & required (codes "issuer") (table_of issuer)
    & defaulted (codes "limit") (number_within 1 100000) 100000
    & required (codes "commands") (array_of (table_of command))

abbrev pub authority : TableFormat AuthorityProfile
authority = fields authority_values authority_of
