use Rattle.shelf_job.proofs.Told.{request_told}
use Rattle.shelf_job.proofs.job.RequestJob.to_be_signed.Goals as goal

pub returns-clause-message : goal.returns-clause-message
returns-clause-message c =
    request_told c.args.self.now _ c.in_ok-key.key c.in_ok-message.message.items c.self.view_is c.in_ok-key.ensures c.in_ok-message.ensures.message
