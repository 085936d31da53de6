use Rattle.path_names.proofs.Mapping.{normal}
use Rattle.path_names.proofs.mapped.preparable_texts_are_normal.Goals as goal

pub returns : goal.returns
returns c = normal
