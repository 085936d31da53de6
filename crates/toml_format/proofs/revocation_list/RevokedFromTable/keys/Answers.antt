use Rattle.toml_format.specs.RevocationList.{revoked_values}
use Rattle.toml_format.proofs.Keys.{one_more}
use Rattle.toml_format.proofs.revocation_list.RevokedFromTable.keys.Goals as goal

pub returns : goal.returns
unfolding revoked_values
returns c =
    let r0 = c.new.ensures in
    let r1 = one_more _ _ _ _ r0 c.in_ok-required.ensures in
    let r2 = one_more _ _ _ _ r1 c.in_ok-required-2.ensures in
    let r3 = one_more _ _ _ _ r2 c.in_ok-optional.ensures in
    one_more _ _ _ _ r3 c.in_ok-reader.ensures
