use Rattle.der_tree.proofs.PaddingLaws.{padding_is}
use Rattle.der_tree.proofs.set.padding_is_no_matter.Goals as goal

pub returns : goal.returns
returns g c v w a b h k = padding_is g.T.Form.codec v w a b h k
