use Rattle.shelf_register.proofs.Steps.{seal_of}
use Rattle.shelf_register.proofs.sealing.seal_asked.Goals as goal

pub returns : goal.returns
returns c = seal_of _ _ _ _ _ c.in_ok-certificate.ensures c.in_ok-step.ensures
