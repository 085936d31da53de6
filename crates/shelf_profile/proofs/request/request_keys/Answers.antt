use Rattle.toml_format.proofs.Keys.{one_more}
use Rattle.shelf_profile.specs.Request.{request_values}
use Rattle.shelf_profile.proofs.request.request_keys.Goals as goal

pub returns : goal.returns
unfolding request_values
returns c =
    let r0 = c.new.ensures in
    let r1 = one_more _ _ _ _ r0 c.in_ok-and.ensures in
    let r2 = one_more _ _ _ _ r1 c.in_ok-and-2.ensures in
    let r3 = one_more _ _ _ _ r2 c.in_ok-listed.ensures in
    let r4 = one_more _ _ _ _ r3 (rw c.preset_ca.ensures at c.in_ok-defaulted.ensures) in
    let r5 = one_more _ _ _ _ r4 (rw c.in_ok-key_usages.ensures at c.in_ok-defaulted-2.ensures) in
    let r6 = one_more _ _ _ _ r5 (rw c.in_ok-purposes.ensures at c.in_ok-defaulted-3.ensures) in
    let r7 = one_more _ _ _ _ r6 c.in_ok-listed-2.ensures in
    one_more _ _ _ _ r7 c.in_ok-reader.ensures
