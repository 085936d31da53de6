use Rattle.certify_profile.specs.Issuer.{issuer_values}
use Rattle.toml_format.proofs.Keys.{one_more}
use Rattle.certify_profile.proofs.issuer.IssuerTableFromTable.keys.Goals as goal

pub returns : goal.returns
unfolding issuer_values
returns c =
    let r0 = c.new.ensures in
    let r1 = one_more _ _ _ _ r0 c.in_ok-required.ensures in
    let r2 = one_more _ _ _ _ r1 c.in_ok-and.ensures in
    let r3 = one_more _ _ _ _ r2 c.in_ok-listed.ensures in
    one_more _ _ _ _ r3 c.in_ok-reader.ensures
