use Rattle.std.proofs.Common.{◌∙◌}
use Rattle.certify_core.specs.Accepting.{issuing_for, request_of}
use Rattle.certify_core.specs.Outcome.{refusal_of}
use Rattle.certify_core.proofs.Accepted.{accepted, refused}
use Rattle.certify_core.proofs.Errors.{passed}
use Rattle.certify_core.proofs.Made.{unread}
use Rattle.certify_core.proofs.accept.AcceptingSubcommand.text.Goals as goal

pub returns-in_err-request-clause-why : goal.returns-in_err-request-clause-why
returns-in_err-request-clause-why c =
    let p = c.args.profile in
    let error = c.in_err-request.field-0.0 in
    let requester = c.new-verifier.ensures ∙ c.in_ok-secret.ensures.items ∙ c.as_bytes.ensures in
    let read = rw (requester, c.as_slice-request.ensures) at c.in_err-request.ensures.read in
    passed c.from_residual-in_err-request.result (refusal_of error) _ c.from_residual-in_err-request.ensures.1
    (unread (issuing_for p.issuer) (request_of p) error read)

pub returns-in_err-text-clause-why : goal.returns-in_err-text-clause-why
returns-in_err-text-clause-why c =
    let p = c.args.profile in
    let error = c.in_err-text.field-0.0 in
    let requester = c.new-verifier.ensures ∙ c.in_ok-secret.ensures.items ∙ c.as_bytes.ensures in
    let read = rw (requester, c.as_slice-request.ensures) at c.in_ok-request.ensures.read in
    passed c.from_residual-in_err-text.result (refusal_of error) _ c.from_residual-in_err-text.ensures.1
    (refused p.issuer (request_of p) read.0 c.in_ok-request.request.params _ _ error read.1 read.2.params c.in_ok-issuer.ensures.view
    (λ r. r.2.refused) c.in_err-text.ensures.why)

pub returns-clause-text : goal.returns-clause-text
returns-clause-text c =
    let p = c.args.profile in
    let requester = c.new-verifier.ensures ∙ c.in_ok-secret.ensures.items ∙ c.as_bytes.ensures in
    let read = rw (requester, c.as_slice-request.ensures) at c.in_ok-request.ensures.read in
    accepted p.issuer (request_of p) read.0 c.in_ok-request.request.params _ _ _ _ read.1 read.2.params read.2.public_key
    c.in_ok-issuer.ensures.view c.in_ok-issuer.ensures.key c.in_ok-text.ensures.text c.in_ok-text.ensures.ok
