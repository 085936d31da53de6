-- What a command to an authority says.
use Rattle.std.specs.Prelude.{ℕ, ℤ, List, Option}
use Rattle.asn1_core.specs.Moment.{instant}
use Rattle.rcgen_text.specs.Names.{Entry}
use Rattle.rcgen_text.specs.declared.revocation_reason.RevocationReason.{RevocationReason}
use Rattle.rcgen_sign.specs.Keys.{Key}
use Rattle.authority.specs.declared.commands.Command.{Command}
use Rattle.authority.specs.declared.commands.Command.TheVariants as command

-- its parts, with the instants of its times
pub data CommandView : Type 0 where
  -- the subject's key and name, and from when until when
  to_issue : Key → List Entry → ℤ → ℤ → CommandView
  -- the serial number, when, and why
  to_revoke : ℕ → ℤ → Option RevocationReason → CommandView
  -- when the list is made, and when the next one is
  to_list : ℤ → ℤ → CommandView

abbrev pub command_view : Command → CommandView
command_view (command.Issue key name not_before not_after) = to_issue key name (instant not_before) (instant not_after)
command_view (command.Revoke serial time reason) = to_revoke serial (instant time) reason
command_view (command.List this_update next_update) = to_list (instant this_update) (instant next_update)
