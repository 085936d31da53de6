use Rattle.path_names.proofs.Matching.{names_equiv}
use Rattle.path_names.proofs.name.names_match_is_equivalence.Goals as goal

pub returns : goal.returns
returns c = names_equiv
