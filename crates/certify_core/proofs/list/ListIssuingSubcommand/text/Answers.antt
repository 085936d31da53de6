use Rattle.std.proofs.Common.{◌∙◌, ap}
use Rattle.certify_core.specs.Lines.{hex_line}
use Rattle.certify_core.specs.Outcome.{refusal_of}
use Rattle.certify_core.proofs.Errors.{passed}
use Rattle.certify_core.proofs.ListIssued.{issued, refused}
use Rattle.certify_core.proofs.list.ListIssuingSubcommand.text.Goals as goal

pub returns-in_err-list-clause-why : goal.returns-in_err-list-clause-why
returns-in_err-list-clause-why c =
    let error = c.in_err-list.field-0.0 in
    passed c.from_residual-in_err-list.result (refusal_of error) _ c.from_residual-in_err-list.ensures.1
    (refused hex_line c.args.profile c.in_ok-params.params _ _ error c.in_ok-params.ensures.list c.in_ok-issuer.ensures.view
    (λ r. r.2.refused) c.in_err-list.ensures.why)

pub returns-clause-text : goal.returns-clause-text
returns-clause-text c =
    let line = c.in_ok-hex_line.ensures ∙ ap hex_line c.der.ensures in
    issued hex_line c.args.profile c.in_ok-params.params _ _ _ _ c.in_ok-params.ensures.list c.in_ok-issuer.ensures.view
    c.in_ok-issuer.ensures.key c.in_ok-list.ensures.issued line c.in_ok-list.ensures.ok
