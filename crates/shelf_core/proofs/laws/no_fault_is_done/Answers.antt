use Rattle.shelf_core.proofs.Done.{no_fault_is_done}
use Rattle.shelf_core.proofs.laws.no_fault_is_done.Goals as goal

pub returns : goal.returns
returns c = no_fault_is_done
