use Rattle.path_validation.proofs.Laws.{invalid_is}
use Rattle.path_validation.proofs.path.first_reason.Goals as goal

pub returns : goal.returns
returns c = invalid_is
