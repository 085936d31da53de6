use Rattle.std.specs.Prelude.{◌≡◌, map}
use Rattle.authority.specs.CommandView.{command_view}
use Rattle.certify_core.specs.AuthorityCommands.{command_of_profile}
use Rattle.certify_core.proofs.params.commands.commands_of.Given as goal

abbrev pub invariant-loop-said : goal.invariant-loop-said
invariant-loop-said l = map command_view l.commands.items ≡ map command_of_profile l.yielded
