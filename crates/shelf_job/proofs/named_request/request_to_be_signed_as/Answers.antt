use Rattle.shelf_job.proofs.named_request.request_to_be_signed_as.Goals as goal

pub returns-in-Some-clause-message : goal.returns-in-Some-clause-message
returns-in-Some-clause-message c = rw c.in-Some.is c.named_to_be_signed.ensures.message

pub returns-in-None-clause-message : goal.returns-in-None-clause-message
returns-in-None-clause-message c = rw c.in-None.is c.request_to_be_signed.ensures.message
