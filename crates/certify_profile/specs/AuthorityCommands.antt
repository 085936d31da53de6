-- Commands to an authority: which keys a command has depends on what is commanded.
use Rattle.std.specs.Prelude.{ℕ, List, [], ◌∷◌, codes, Option, Result, Ok}
use Rattle.toml_format.specs.Issuer.{name, given_name}
use Rattle.toml_format.specs.RevocationList.{revocation_reason}
use Rattle.toml_format.specs.Tables.{TableFormat, no_keys, ◌&◌, required, optional, fields, chosen}
use Rattle.toml_format.specs.TimeText.{TimestampView, date_time}
use Rattle.toml_format.specs.Values.{text, text_as, number_within}
use Rattle.toml_format.specs.Words.{word_of}
use Rattle.certify_profile.specs.declared.authority_command.AnyCommand.{AnyCommand}
use Rattle.certify_profile.specs.declared.authority_command.AuthorityCommand.{AuthorityCommand}
use Rattle.certify_profile.specs.declared.authority_command.AuthorityCommand.TheVariants as said
use Rattle.certify_profile.specs.declared.authority_command.CommandWord.{CommandWord}
use Rattle.certify_profile.specs.declared.authority_command.CommandWord.TheVariants as word
use Rattle.certify_profile.specs.declared.authority_command.IssueCommand.{IssueCommand}
use Rattle.certify_profile.specs.declared.authority_command.ListCommand.{ListCommand}
use Rattle.certify_profile.specs.declared.authority_command.RevokeCommand.{RevokeCommand}
use Rattle.toml_format.specs.declared.issuer.GivenName.{GivenName}
use Rattle.toml_format.specs.declared.issuer.Name.{Name}
use Rattle.toml_format.specs.declared.reason.Reason.{Reason}
use Rattle.rcgen_text.specs.declared.revocation_reason.RevocationReason.{RevocationReason}

-- ---- what is commanded

unfoldable pub command_word : List ℕ → Option CommandWord
command_word = word_of ((codes "issue", word.Issue) ∷ (codes "revoke", word.Revoke) ∷ (codes "list", word.List) ∷ [])

abbrev pub WordValues : Type 0
WordValues = Unit {0} × CommandWord

unfoldable pub word_of_keys : WordValues → Result CommandWord Reason
word_of_keys (_, commanded) = Ok commanded

unfoldable pub word_values : TableFormat WordValues
word_values = no_keys & required (codes "cmd") (text_as command_word)

-- ---- the keys that go with it; for each, the values at the keys, in order

abbrev pub IssueValues : Type 0
IssueValues = (((Unit {0} × List ℕ) × GivenName) × TimestampView) × TimestampView

unfoldable pub issue_of : IssueValues → Result IssueCommand Reason
issue_of ((((_, secret), given), not_before), not_after) =
    Ok (record { secret = secret; name = given.name; not_before = not_before; not_after = not_after })

unfoldable pub issue_values : TableFormat IssueValues
issue_values =
    no_keys
    & required (codes "secret") text
    & given_name
    & required (codes "not_before") (text_as date_time)
    & required (codes "not_after") (text_as date_time)

abbrev pub RevokeValues : Type 0
RevokeValues = ((Unit {0} × ℕ) × TimestampView) × Option RevocationReason

unfoldable pub revoke_of : RevokeValues → Result RevokeCommand Reason
revoke_of (((_, serial), time), reason) = Ok (record { serial = serial; time = time; reason = reason })

unfoldable pub revoke_values : TableFormat RevokeValues
revoke_values =
    no_keys
    & required (codes "serial") (number_within 0 9223372036854775807)
    & required (codes "time") (text_as date_time)
    & optional (codes "reason") (text_as revocation_reason)

abbrev pub ListValues : Type 0
ListValues = (Unit {0} × TimestampView) × TimestampView

unfoldable pub list_of : ListValues → Result ListCommand Reason
list_of ((_, this_update), next_update) = Ok (record { this_update = this_update; next_update = next_update })

unfoldable pub list_values : TableFormat ListValues
list_values =
    no_keys
    & required (codes "this_update") (text_as date_time)
    & required (codes "next_update") (text_as date_time)

-- ---- the keys of all three, where it isn't known which of them it is

abbrev pub AnyValues : Type 0
AnyValues =
    ((((((((Unit {0} × Option (List ℕ)) × Name) × Option TimestampView) × Option TimestampView) × Option ℕ) × Option TimestampView)
    × Option RevocationReason) × Option TimestampView) × Option TimestampView

unfoldable pub any_of : AnyValues → Result AnyCommand Reason
any_of values = Ok (record {})

unfoldable pub any_values : TableFormat AnyValues
any_values =
    no_keys
    & optional (codes "secret") text
    & name
    & optional (codes "not_before") (text_as date_time)
    & optional (codes "not_after") (text_as date_time)
    & optional (codes "serial") (number_within 0 9223372036854775807)
    & optional (codes "time") (text_as date_time)
    & optional (codes "reason") (text_as revocation_reason)
    & optional (codes "this_update") (text_as date_time)
    & optional (codes "next_update") (text_as date_time)

-- ---- a command

abbrev pub own_keys : CommandWord → TableFormat AuthorityCommand
own_keys word.Issue = fields (fields issue_values issue_of) (λ c. Ok (said.Issue c))
own_keys word.Revoke = fields (fields revoke_values revoke_of) (λ c. Ok (said.Revoke c))
own_keys word.List = fields (fields list_values list_of) (λ c. Ok (said.List c))

-- what is commanded, and the keys that go with it
abbrev pub command_keys : TableFormat AuthorityCommand
command_keys = chosen (fields word_values word_of_keys) own_keys (fields any_values any_of)

abbrev pub command : TableFormat AuthorityCommand
command = fields command_keys (λ c. Ok c)
