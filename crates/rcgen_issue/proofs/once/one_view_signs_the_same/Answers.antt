use Rattle.rcgen_issue.proofs.ListsOnce.{signs_the_same}
use Rattle.rcgen_issue.proofs.once.one_view_signs_the_same.Goals as goal

pub returns : goal.returns
returns c = signs_the_same c.written_once.ensures
