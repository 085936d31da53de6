use Rattle.std.proofs.Common.{◌∙◌, ap}
use Rattle.certify_core.specs.AttributeRefusals.{attribute_refusal}
use Rattle.certify_core.specs.Issuing.{issuer_of_profile}
use Rattle.certify_core.specs.Lines.{hex_line}
use Rattle.certify_core.proofs.AttributeIssued.{issued, refused}
use Rattle.certify_core.proofs.Errors.{passed}
use Rattle.certify_core.proofs.attribute.AttributeIssuingSubcommand.text.Goals as goal
use Rattle.certify_profile.specs.declared.issuer.IssuerTable.{IssuerTable}

pub returns-in_err-certificate-clause-why : goal.returns-in_err-certificate-clause-why
returns-in_err-certificate-clause-why c =
    let error = c.in_err-certificate.field-0.0 in
    let view = c.in_ok-issuer.ensures.view ∙ ap issuer_of_profile c.in_ok-params.ensures.issuer in
    passed c.from_residual-in_err-certificate.result (attribute_refusal error) _ c.from_residual-in_err-certificate.ensures.1
    (refused c.args.profile c.in_ok-params.params _ _ error c.in_ok-params.ensures.params view (λ r. r.2.refused) c.in_err-certificate.ensures.why)

pub returns-clause-text : goal.returns-clause-text
returns-clause-text c =
    let view = c.in_ok-issuer.ensures.view ∙ ap issuer_of_profile c.in_ok-params.ensures.issuer in
    let secret = c.in_ok-issuer.ensures.key ∙ ap (λ (t : IssuerTable). t.secret) c.in_ok-params.ensures.issuer in
    let line = c.in_ok-hex_line.ensures ∙ ap hex_line c.der.ensures in
    issued c.args.profile c.in_ok-params.params _ _ _ _ c.in_ok-params.ensures.params view secret c.in_ok-certificate.ensures.issued line
    c.in_ok-certificate.ensures.ok
