use Rattle.std.proofs.Common.{◌∙◌, ap, refl}
use Rattle.certify_core.specs.Lines.{hex_line}
use Rattle.certify_core.specs.Outcome.{refusal_of}
use Rattle.certify_core.specs.Requesting.{requesting}
use Rattle.certify_core.proofs.Errors.{passed}
use Rattle.certify_core.proofs.Made.{refused}
use Rattle.certify_core.proofs.Requested.{requested}
use Rattle.certify_core.proofs.request.RequestingSubcommand.text.Goals as goal

pub returns-in_err-request-clause-why : goal.returns-in_err-request-clause-why
returns-in_err-request-clause-why c =
    let p = c.args.profile in
    let error = c.in_err-request.field-0.0 in
    passed c.from_residual-in_err-request.result (refusal_of error) _ c.from_residual-in_err-request.ensures.1
    (refused (requesting p) c.in_ok-params.params _ _ error refl c.in_ok-params.ensures.params (λ r. r.2.refused) c.in_err-request.ensures.why)

pub returns-clause-text : goal.returns-clause-text
returns-clause-text c =
    let p = c.args.profile in
    let secret = c.in_ok-key.ensures.secret ∙ c.as_bytes.ensures in
    requested p c.in_ok-params.params _ _ _ c.in_ok-params.ensures.params secret c.in_ok-request.ensures.requested
    (c.in_ok-hex_line.ensures ∙ ap hex_line c.der.ensures) c.in_ok-request.ensures.ok
