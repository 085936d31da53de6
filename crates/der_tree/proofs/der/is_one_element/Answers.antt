use Rattle.der_tree.proofs.FormLaws.{form_is_element}
use Rattle.der_tree.proofs.der.is_one_element.Goals as goal

pub returns : goal.returns
returns g c v b h = form_is_element g.T.Form.codec v b h
