use Rattle.shelf_explain.specs.Known.{known_names}
use Rattle.shelf_explain.proofs.known.known_name.Goals as goal

pub returns : goal.returns
unfolding known_names
returns c = c.name_in.ensures
