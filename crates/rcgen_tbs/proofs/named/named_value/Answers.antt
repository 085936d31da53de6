use Rattle.rcgen_certificate.specs.Issuers.{view_of}
use Rattle.rcgen_certificate.specs.ParamsView.{params_view}
use Rattle.rcgen_tbs.proofs.UnderNames.{named, still_formed}
use Rattle.rcgen_tbs.proofs.named.named_value.Goals as goal

pub returns-clause-value : goal.returns-clause-value
returns-clause-value g c =
    named (params_view c.args.params.now) c.args.subject.now c.args.name.now (view_of g.S.PublicKeyData.key c.args.issuer.now) c.in_ok-base.base
    c.in_ok-value.value c.in_ok-base.ensures.value c.in_ok-value.ensures.value

pub returns-clause-formed : goal.returns-clause-formed
returns-clause-formed g c =
    still_formed c.args.name.now c.in_ok-base.base c.in_ok-value.value c.requires.name c.in_ok-base.ensures.formed c.in_ok-value.ensures.value
