use Rattle.shelf_job.proofs.named_request.info_octets.Goals as goal

pub returns-clause-form : goal.returns-clause-form
returns-clause-form c = rw c.in_ok-octets.ensures.value at c.encode.ensures.ok
