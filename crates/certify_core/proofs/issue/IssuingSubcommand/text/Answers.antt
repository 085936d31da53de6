use Rattle.std.proofs.Common.{◌∙◌, Some, None}
use Rattle.certify_core.specs.Issuing.{own_issuer}
use Rattle.certify_core.specs.Outcome.{refusal_of}
use Rattle.certify_core.proofs.Errors.{passed}
use Rattle.certify_core.proofs.Issued.{issuer_is, own_view_is, issued, refused}
use Rattle.certify_core.proofs.issue.IssuingSubcommand.text.Goals as goal

pub returns-in_err-certificate_text-in-Some-clause-why : goal.returns-in_err-certificate_text-in-Some-clause-why
returns-in_err-certificate_text-in-Some-clause-why c =
    let p = c.args.profile in
    let error = c.in_err-certificate_text-in-Some.field-0.0 in
    let table = c.in-Some.table in
    let is_issuer = issuer_is p (Some table) c.in-Some.is in
    passed c.from_residual-in_err-certificate_text-in-Some.result (refusal_of error) _
    c.from_residual-in_err-certificate_text-in-Some.ensures.1
    (refused p c.in_ok-params.params table _ _ error c.in_ok-params.ensures.params is_issuer c.in_ok-issuer-in-Some.ensures.view (λ r. r.2.refused)
    c.in_err-certificate_text-in-Some.ensures.why)

pub returns-in-Some-clause-text : goal.returns-in-Some-clause-text
returns-in-Some-clause-text c =
    let p = c.args.profile in
    let table = c.in-Some.table in
    let is_issuer = issuer_is p (Some table) c.in-Some.is in
    issued p c.in_ok-params.params table _ _ _ _ c.in_ok-params.ensures.params is_issuer (c.in_ok-key.ensures.secret ∙ c.as_bytes.ensures)
    c.in_ok-issuer-in-Some.ensures.key c.in_ok-issuer-in-Some.ensures.view
    c.in_ok-certificate_text-in-Some.ensures.text c.in_ok-certificate_text-in-Some.ensures.ok

pub returns-in_err-certificate_text-in-None-clause-why : goal.returns-in_err-certificate_text-in-None-clause-why
returns-in_err-certificate_text-in-None-clause-why c =
    let p = c.args.profile in
    let error = c.in_err-certificate_text-in-None.field-0.0 in
    let secret = c.in_ok-key.ensures.secret ∙ c.as_bytes.ensures in
    let says = c.in_ok-params.ensures.params in
    let is_issuer = issuer_is p None c.in-None.is in
    let why = rw (c.from_params-issuer.ensures.field, c.from_params-issuer.ensures.method, c.from_params-issuer.ensures.usages, c.from_params-issuer.ensures.key)
    at c.in_err-certificate_text-in-None.ensures.why in
    passed c.from_residual-in_err-certificate_text-in-None.result (refusal_of error) _
    c.from_residual-in_err-certificate_text-in-None.ensures.1
    (refused p c.in_ok-params.params (own_issuer p) _ _ error says is_issuer
    (own_view_is p c.in_ok-params.params _ says secret) (λ r. r.2.refused) why)

pub returns-clause-text : goal.returns-clause-text
returns-clause-text c =
    let p = c.args.profile in
    let secret = c.in_ok-key.ensures.secret ∙ c.as_bytes.ensures in
    let says = c.in_ok-params.ensures.params in
    let is_issuer = issuer_is p None c.in-None.is in
    let text = rw (c.from_params-issuer.ensures.field, c.from_params-issuer.ensures.method, c.from_params-issuer.ensures.usages, c.from_params-issuer.ensures.key)
    at c.in_ok-certificate_text-in-None.ensures.text in
    let ok = rw (c.from_params-issuer.ensures.field) at c.in_ok-certificate_text-in-None.ensures.ok in
    issued p c.in_ok-params.params (own_issuer p) _ _ _ _ says is_issuer secret secret
    (own_view_is p c.in_ok-params.params _ says secret) text ok
