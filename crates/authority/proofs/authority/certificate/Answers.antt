use Rattle.rcgen_certificate.specs.Issuers.{key_of, view_of}
use Rattle.rcgen_certificate.specs.ParamsView.{params_view}
use Rattle.authority.proofs.Steps.{issued, unissued}
use Rattle.authority.proofs.authority.certificate.Goals as goal

pub returns-clause-ok : goal.returns-clause-ok
returns-clause-ok g c =
    issued (view_of g.S.PublicKeyData.key c.args.issuer.now) (g.S.SigningKey.fits (key_of c.args.issuer.now)) (g.K.PublicKeyData.key c.args.key.now)
    (params_view c.in_ok-params.params) _ c.signed_by.result c.in_ok-params.ensures.value c.signed_by.ensures.issued c.signed_by.ensures.ok

pub returns-clause-why : goal.returns-clause-why
returns-clause-why g c =
    unissued (view_of g.S.PublicKeyData.key c.args.issuer.now) (g.S.SigningKey.may_refuse (key_of c.args.issuer.now))
    (g.K.PublicKeyData.key c.args.key.now) (params_view c.in_ok-params.params) _ c.signed_by.result c.in_ok-params.ensures.value
    c.signed_by.ensures.why
