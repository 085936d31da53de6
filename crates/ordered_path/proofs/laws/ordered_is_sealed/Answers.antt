use Rattle.ordered_path.proofs.Ordered.{ordered_is}
use Rattle.ordered_path.proofs.laws.ordered_is_sealed.Goals as goal

pub returns : goal.returns
returns c = ordered_is
