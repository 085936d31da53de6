use Rattle.shelf_path.proofs.Goods.{issuers_lists_are_asked}
use Rattle.shelf_path.proofs.laws.issuers_lists_are_asked.Goals as goal

pub returns : goal.returns
returns c = issuers_lists_are_asked
