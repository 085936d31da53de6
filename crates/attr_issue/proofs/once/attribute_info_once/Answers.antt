use Rattle.attr_issue.proofs.AttributesOnce.{one_info}
use Rattle.attr_issue.proofs.once.attribute_info_once.Goals as goal

pub returns : goal.returns
returns c = one_info c.written_once.ensures
