use Rattle.path_validation.proofs.Laws.{valid_is}
use Rattle.path_validation.proofs.path.valid_exactly.Goals as goal

pub returns : goal.returns
returns c = valid_is
