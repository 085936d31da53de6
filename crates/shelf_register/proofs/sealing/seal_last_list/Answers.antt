use Rattle.shelf_register.proofs.Steps.{seal_of_list}
use Rattle.shelf_register.proofs.sealing.seal_last_list.Goals as goal

pub returns : goal.returns
returns c = seal_of_list _ _ _ _ _ c.in_ok-list.ensures c.in_ok-step.ensures
