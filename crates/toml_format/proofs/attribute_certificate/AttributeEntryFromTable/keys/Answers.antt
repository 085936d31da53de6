use Rattle.toml_format.specs.AttributeCertificate.{entry_values}
use Rattle.toml_format.proofs.Keys.{one_more}
use Rattle.toml_format.proofs.attribute_certificate.AttributeEntryFromTable.keys.Goals as goal

pub returns : goal.returns
unfolding entry_values
returns c =
    let r0 = c.new.ensures in
    let r1 = one_more _ _ _ _ r0 c.in_ok-required.ensures in
    one_more _ _ _ _ r1 c.in_ok-reader.ensures
