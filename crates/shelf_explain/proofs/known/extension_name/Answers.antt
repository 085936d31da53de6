use Rattle.shelf_explain.specs.Known.{extension_names}
use Rattle.shelf_explain.proofs.known.extension_name.Goals as goal

pub returns : goal.returns
unfolding extension_names
returns c = c.name_in.ensures
