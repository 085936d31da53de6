use Rattle.rcgen_tbs.proofs.Deltas.{list_assembled, list_is_one}
use Rattle.rcgen_tbs.proofs.delta_laws.assembled_list.Goals as goal

pub returns-clause-element : goal.returns-clause-element
returns-clause-element c = list_is_one

pub returns-clause-list : goal.returns-clause-list
returns-clause-list c = list_assembled c.list_to_be_signed_once.ensures
