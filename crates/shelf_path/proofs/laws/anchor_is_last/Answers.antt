use Rattle.shelf_path.proofs.Labels.{anchor_is_last}
use Rattle.shelf_path.proofs.laws.anchor_is_last.Goals as goal

pub returns : goal.returns
returns c = anchor_is_last
