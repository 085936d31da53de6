use Rattle.toml_format.specs.Certificate.{content_values}
use Rattle.toml_format.proofs.Keys.{one_more}
use Rattle.toml_format.proofs.certificate.CertificateContentFromTable.keys.Goals as goal

pub returns : goal.returns
unfolding content_values
returns c =
    let r0 = c.new.ensures in
    let r1 = one_more _ _ _ _ r0 c.in_ok-and.ensures in
    let r2 = one_more _ _ _ _ r1 c.in_ok-optional.ensures in
    let r3 = one_more _ _ _ _ r2 c.in_ok-optional-2.ensures in
    let r4 = one_more _ _ _ _ r3 c.in_ok-optional-3.ensures in
    let r5 = one_more _ _ _ _ r4 c.in_ok-listed.ensures in
    let r6 = one_more _ _ _ _ r5 c.in_ok-defaulted.ensures in
    let r7 = one_more _ _ _ _ r6 c.in_ok-listed-2.ensures in
    let r8 = one_more _ _ _ _ r7 c.in_ok-listed-3.ensures in
    let r9 = one_more _ _ _ _ r8 c.in_ok-and-2.ensures in
    let r10 = one_more _ _ _ _ r9 c.in_ok-listed-4.ensures in
    let r11 = one_more _ _ _ _ r10 c.in_ok-listed-5.ensures in
    let r12 = one_more _ _ _ _ r11 c.in_ok-defaulted-2.ensures in
    one_more _ _ _ _ r12 c.in_ok-reader.ensures
