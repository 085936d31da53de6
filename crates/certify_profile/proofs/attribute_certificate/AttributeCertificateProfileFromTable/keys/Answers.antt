use Rattle.certify_profile.specs.AttributeCertificate.{attribute_certificate_values}
use Rattle.toml_format.proofs.Keys.{one_more}
use Rattle.certify_profile.proofs.attribute_certificate.AttributeCertificateProfileFromTable.keys.Goals as goal

pub returns : goal.returns
unfolding attribute_certificate_values
returns c =
    let r0 = c.new.ensures in
    let r1 = one_more _ _ _ _ r0 c.in_ok-required.ensures in
    let r2 = one_more _ _ _ _ r1 c.in_ok-required-2.ensures in
    let r3 = one_more _ _ _ _ r2 c.in_ok-required-3.ensures in
    let r4 = one_more _ _ _ _ r3 c.in_ok-required-4.ensures in
    let r5 = one_more _ _ _ _ r4 c.in_ok-required-5.ensures in
    let r6 = one_more _ _ _ _ r5 c.in_ok-required-6.ensures in
    one_more _ _ _ _ r6 c.in_ok-reader.ensures
