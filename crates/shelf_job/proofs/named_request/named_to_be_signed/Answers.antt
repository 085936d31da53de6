use Rattle.shelf_job.proofs.named_request.named_to_be_signed.Goals as goal

pub returns-clause-message : goal.returns-clause-message
returns-clause-message c = (c.in_ok-info.info, c.in_ok-info.ensures.info, c.in_ok-message.ensures.form)
