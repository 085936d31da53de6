use Rattle.certify_profile.specs.AuthorityCommands.{list_values}
use Rattle.toml_format.proofs.Keys.{one_more}
use Rattle.certify_profile.proofs.authority_command.ListCommandFromTable.keys.Goals as goal

pub returns : goal.returns
unfolding list_values
returns c =
    let r0 = c.new.ensures in
    let r1 = one_more _ _ _ _ r0 c.in_ok-required.ensures in
    one_more _ _ _ _ r1 c.in_ok-reader.ensures
