use Rattle.certify_profile.specs.Authority.{authority_values}
use Rattle.toml_format.proofs.Keys.{one_more}
use Rattle.certify_profile.proofs.authority.AuthorityProfileFromTable.keys.Goals as goal

pub returns : goal.returns
unfolding authority_values
returns c =
    let r0 = c.new.ensures in
    let r1 = one_more _ _ _ _ r0 c.in_ok-required.ensures in
    let limit = rw c.new-2.ensures at c.in_ok-defaulted.ensures in
    let r2 = one_more _ _ _ _ r1 limit in
    one_more _ _ _ _ r2 c.in_ok-reader.ensures
