use Rattle.rcgen_certificate.specs.ParamsView.{params_view}
use Rattle.shelf_job.proofs.NamedRequests.{named, still_formed}
use Rattle.shelf_job.proofs.named_request.named_info.Goals as goal

pub returns-clause-info : goal.returns-clause-info
returns-clause-info c =
    named (params_view c.args.params.now) c.args.key.now c.args.name.now c.in_ok-base.base c.in_ok-info.info c.in_ok-base.ensures.value
    c.in_ok-info.ensures.info

pub returns-clause-formed : goal.returns-clause-formed
returns-clause-formed c =
    still_formed c.args.name.now c.in_ok-base.base c.in_ok-info.info c.requires c.in_ok-base.ensures.formed c.in_ok-info.ensures.info
