use Rattle.der_tree.specs.laws.Codec.{each_has_tag}
use Rattle.der_tree.proofs.der.tag_of_each_form.Goals as goal

pub returns : goal.returns
returns g c = each_has_tag g.T.Form.codec g.T.DerType.TAG g.met.T.DerType.tag_is
