use Rattle.attr_issue.specs.AttributeCertificateView.{attribute_certificate_view}
use Rattle.attr_issue.proofs.AttributeCauses.{none_of_all}
use Rattle.attr_issue.proofs.AttributeTableMet.{given_trees, met}
use Rattle.attr_issue.proofs.attribute_table.attribute_certificate_exists.Goals as goal

pub returns : goal.returns
returns c = λ issuer h.
    let params = attribute_certificate_view c.args.params.now in
    let none = none_of_all params issuer.name h in
    met params issuer c.has_utc_exactly.ensures.0 c.has_utc_exactly-2.ensures.0 none.0
    (given_trees c.args.params.now.attributes.items none.0.attribute_types none.1)
