use Rattle.shelf_path.proofs.Goods.{valid_is_good}
use Rattle.shelf_path.proofs.laws.valid_is_good.Goals as goal

pub returns : goal.returns
returns c = valid_is_good
