use Rattle.toml_format.proofs.Keys.{one_more}
use Rattle.shelf_profile.specs.RequestUse.{request_use_values}
use Rattle.shelf_profile.proofs.request_use.RequestUseFromTable.keys.Goals as goal

pub returns : goal.returns
unfolding request_use_values
returns c =
    let r0 = c.new.ensures in
    let r1 = one_more _ _ _ _ r0 c.in_ok-listed.ensures in
    let r2 = one_more _ _ _ _ r1 c.in_ok-defaulted.ensures in
    let r3 = one_more _ _ _ _ r2 c.in_ok-listed-2.ensures in
    one_more _ _ _ _ r3 c.in_ok-reader.ensures
