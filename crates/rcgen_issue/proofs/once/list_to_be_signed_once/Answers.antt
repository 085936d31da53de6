use Rattle.rcgen_issue.proofs.ListsOnce.{one_list}
use Rattle.rcgen_issue.proofs.once.list_to_be_signed_once.Goals as goal

pub returns : goal.returns
returns c = one_list c.written_once.ensures
