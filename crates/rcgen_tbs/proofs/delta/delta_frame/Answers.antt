use Rattle.std.proofs.Common.{refl}
use Rattle.rcgen_certificate.specs.Issuers.{view_of}
use Rattle.rcgen_issue.specs.CrlView.{crl_view}
use Rattle.rcgen_tbs.proofs.Deltas.{are_rows_named, delta_frame, frame_formed}
use Rattle.rcgen_tbs.proofs.delta.delta_frame.Goals as goal

pub with_indicator-requires : goal.with_indicator-requires
with_indicator-requires g c =
    are_rows_named (crl_view c.args.params.now) (view_of g.S.PublicKeyData.key c.args.issuer.now) c.in_ok-frame.frame c.take-field.result
    c.in_ok-frame.ensures.value c.take-field.ensures.value

pub returns-clause-value : goal.returns-clause-value
returns-clause-value g c =
    delta_frame c.args.base.now (crl_view c.args.params.now) (view_of g.S.PublicKeyData.key c.args.issuer.now) c.in_ok-frame.frame _ c.take-field.result
    c.in_ok-frame-2.field-0 c.in_ok-frame.ensures.value c.take-field.ensures.value c.in_ok-frame-2.ensures.rows refl

pub returns-clause-formed : goal.returns-clause-formed
returns-clause-formed g c =
    frame_formed c.in_ok-frame-2.field-0 c.in_ok-frame.frame _ c.in_ok-frame-2.ensures.formed c.in_ok-frame.ensures.formed refl
