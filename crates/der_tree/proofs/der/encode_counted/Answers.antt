use Rattle.der_tree.proofs.FormLaws.{written_is}
use Rattle.der_tree.specs.View.{plain}
use Rattle.der_tree.proofs.der.encode_counted.Goals as goal

pub returns-clause-ok : goal.returns-clause-ok
returns-clause-ok g c = written_is g.T.Form.codec c.args.value.now (plain c.in_ok-tree.tree) c.in_ok-out.out.items c.in_ok-tree.ensures c.in_ok-out.ensures.octets c.in_ok-out.ensures.element
