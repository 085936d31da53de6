use Rattle.toml_format.specs.AttributeCertificate.{holder_values}
use Rattle.toml_format.proofs.Keys.{one_more}
use Rattle.toml_format.proofs.attribute_certificate.AttributeHolderFromTable.keys.Goals as goal

pub returns : goal.returns
unfolding holder_values
returns c =
    let r0 = c.new.ensures in
    let r1 = one_more _ _ _ _ r0 c.in_ok-and.ensures in
    one_more _ _ _ _ r1 c.in_ok-reader.ensures
