use Rattle.explained_whole.proofs.Told.{told}
use Rattle.explained_whole.proofs.laws.fields_are_told.Goals as goal

pub returns : goal.returns
returns c = told
