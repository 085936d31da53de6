use Rattle.der_tree.proofs.FormLaws.{same_value}
use Rattle.der_tree.proofs.der.one_value.Goals as goal

pub returns : goal.returns
returns g c v w b h k = same_value g.T.Form.codec v w b h k
