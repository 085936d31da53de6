use Rattle.toml_format.proofs.Keys.{one_more}
use Rattle.shelf_profile.specs.RevocationList.{list_values}
use Rattle.shelf_profile.proofs.revocation_list.ListOrderFromTable.keys.Goals as goal

pub returns : goal.returns
unfolding list_values
returns c =
    let r0 = c.new.ensures in
    let r1 = one_more _ _ _ _ r0 c.in_ok-and.ensures in
    let r2 = one_more _ _ _ _ r1 c.in_ok-and-2.ensures in
    one_more _ _ _ _ r2 c.in_ok-reader.ensures
