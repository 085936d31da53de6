-- The commands to an authority that a profile gives.
use Rattle.rcgen_sign.specs.DigestKeys.{digest_key}
use Rattle.authority.specs.CommandView.{CommandView, to_issue, to_list, to_revoke}
use Rattle.toml_format.specs.UtcInstant.{instant_of}
use Rattle.certify_profile.specs.declared.authority_command.AuthorityCommand.{AuthorityCommand}
use Rattle.certify_profile.specs.declared.authority_command.AuthorityCommand.TheVariants as words
use Rattle.certify_profile.specs.declared.authority_command.IssueCommand.{IssueCommand}
use Rattle.profile_params.specs.Names.{name_of_profile}

-- the subject's key is that of the secret
abbrev pub issue_of_profile : IssueCommand → CommandView
issue_of_profile c = to_issue (digest_key c.secret) (name_of_profile c.name) (instant_of c.not_before) (instant_of c.not_after)

abbrev pub command_of_profile : AuthorityCommand → CommandView
command_of_profile (words.Issue c) = issue_of_profile c
command_of_profile (words.Revoke c) = to_revoke c.serial (instant_of c.time) c.reason
command_of_profile (words.List c) = to_list (instant_of c.this_update) (instant_of c.next_update)
