use Rattle.toml_format.proofs.Keys.{one_more}
use Rattle.shelf_profile.specs.Certificate.{certificate_values}
use Rattle.shelf_profile.proofs.certificate.certificate_keys.Goals as goal

pub returns : goal.returns
unfolding certificate_values
returns c =
    let r0 = c.new.ensures in
    let r1 = one_more _ _ _ _ r0 c.in_ok-and.ensures in
    let r2 = one_more _ _ _ _ r1 c.in_ok-and-2.ensures in
    let r3 = one_more _ _ _ _ r2 c.in_ok-and-3.ensures in
    let r4 = one_more _ _ _ _ r3 c.in_ok-required.ensures in
    let r5 = one_more _ _ _ _ r4 c.in_ok-and-4.ensures in
    let r6 = one_more _ _ _ _ r5 c.in_ok-optional.ensures in
    let r7 = one_more _ _ _ _ r6 (rw c.preset_ca.ensures at c.in_ok-defaulted.ensures) in
    let r8 = one_more _ _ _ _ r7 (rw c.in_ok-key_usages.ensures at c.in_ok-defaulted-2.ensures) in
    let r9 = one_more _ _ _ _ r8 c.in_ok-optional-2.ensures in
    let r10 = one_more _ _ _ _ r9 c.in_ok-and-5.ensures in
    let r11 = one_more _ _ _ _ r10 c.in_ok-listed.ensures in
    let r12 = one_more _ _ _ _ r11 c.in_ok-and-6.ensures in
    let r13 = one_more _ _ _ _ r12 c.in_ok-listed-2.ensures in
    let r14 = one_more _ _ _ _ r13 (rw c.has_authority_key_id.ensures at c.in_ok-defaulted-3.ensures) in
    let r15 = one_more _ _ _ _ r14 c.in_ok-defaulted-4.ensures in
    let r16 = one_more _ _ _ _ r15 c.in_ok-defaulted-5.ensures in
    one_more _ _ _ _ r16 c.in_ok-reader.ensures
