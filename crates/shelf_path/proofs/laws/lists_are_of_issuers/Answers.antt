use Rattle.shelf_path.proofs.Goods.{lists_are_of_issuers}
use Rattle.shelf_path.proofs.laws.lists_are_of_issuers.Goals as goal

pub returns : goal.returns
returns c = lists_are_of_issuers
