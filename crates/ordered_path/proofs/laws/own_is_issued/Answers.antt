use Rattle.ordered_path.proofs.Ordered.{own_is}
use Rattle.ordered_path.proofs.laws.own_is_issued.Goals as goal

pub returns : goal.returns
returns c = own_is
