use Rattle.outcomes.proofs.Civil.{each_is}
use Rattle.outcomes.proofs.laws.each_instant_is_civil.Goals as goal

pub returns : goal.returns
returns c = each_is
