use Rattle.shelf_explain.specs.Known.{attribute_names}
use Rattle.shelf_explain.proofs.known.attribute_name.Goals as goal

pub returns : goal.returns
unfolding attribute_names
returns c = c.name_in.ensures
