use Rattle.rcgen_text.specs.Causes.{origin_of}
use Rattle.rcgen_certificate.proofs.Issuing.{passed}
use Rattle.rcgen_certificate.specs.Issuers.{issuer_field_of, view_of}
use Rattle.rcgen_certificate.specs.ParamsView.{params_view}
use Rattle.rcgen_tbs.proofs.Subjects.{no_cause, of_stand_in, same_refusal}
use Rattle.rcgen_tbs.proofs.stand_in.of_stand_in.Goals as goal

pub returns-in_err-value-clause-why : goal.returns-in_err-value-clause-why
returns-in_err-value-clause-why g c =
    let view = c.in_ok-copy.ensures.view in
    passed c.from_residual-in_err-value.result c.in_err-value.field-0.0 _ c.from_residual-in_err-value.ensures.1
    (same_refusal (params_view c.args.params.now) (params_view c.in_ok-copy.copy) view.0 (issuer_field_of c.args.issuer.now)
    (origin_of c.in_err-value.field-0.0) view.2 c.in_err-value.ensures.why)

pub returns-clause-ok : goal.returns-clause-ok
returns-clause-ok g c =
    let view = c.in_ok-copy.ensures.view in
    no_cause (params_view c.args.params.now) (params_view c.in_ok-copy.copy) view.0 (issuer_field_of c.args.issuer.now) view.2
    c.in_ok-value.ensures.ok

pub returns-clause-value : goal.returns-clause-value
returns-clause-value g c =
    let view = c.in_ok-copy.ensures.view in
    of_stand_in (params_view c.args.params.now) (params_view c.in_ok-copy.copy) c.args.info.now c.in_ok-key.key
    (view_of g.S.PublicKeyData.key c.args.issuer.now) c.in_ok-value.value view.0 view.1 view.2 c.in_ok-key.ensures.key c.in_ok-value.ensures.value
