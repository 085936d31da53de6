use Rattle.der_tree.proofs.FormLaws.{value_again, value_there}
use Rattle.der_tree.proofs.der.value_exactly.Goals as goal

pub returns : goal.returns
returns g c = λ b v. (value_there g.T.Form.codec b v, value_again g.T.Form.codec b v)
