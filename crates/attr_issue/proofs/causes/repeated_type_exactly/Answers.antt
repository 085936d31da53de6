use Rattle.attr_issue.proofs.RepeatedTypes.{stands_twice}
use Rattle.attr_issue.proofs.causes.repeated_type_exactly.Goals as goal

pub returns : goal.returns
returns c = stands_twice
