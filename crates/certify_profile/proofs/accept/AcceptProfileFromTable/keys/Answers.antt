use Rattle.certify_profile.specs.Accept.{accept_values}
use Rattle.toml_format.proofs.Keys.{one_more}
use Rattle.certify_profile.proofs.accept.AcceptProfileFromTable.keys.Goals as goal

pub returns : goal.returns
unfolding accept_values
returns c =
    let r0 = c.new.ensures in
    let r1 = one_more _ _ _ _ r0 c.in_ok-required.ensures in
    let r2 = one_more _ _ _ _ r1 c.in_ok-required-2.ensures in
    one_more _ _ _ _ r2 c.in_ok-reader.ensures
