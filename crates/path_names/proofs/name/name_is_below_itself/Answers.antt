use Rattle.path_names.proofs.Matching.{below_itself}
use Rattle.path_names.proofs.name.name_is_below_itself.Goals as goal

pub returns : goal.returns
returns c = below_itself
