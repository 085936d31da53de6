use Rattle.der_tree.proofs.FormLaws.{no_front}
use Rattle.der_tree.proofs.der.no_front.Goals as goal

pub returns : goal.returns
returns g c v w a b rest h k e = no_front g.T.Form.codec g.U.Form.codec v w a b rest h k e
