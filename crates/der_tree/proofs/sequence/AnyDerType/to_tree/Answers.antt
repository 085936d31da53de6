use Rattle.der_tree.proofs.SequenceLaws.{encodes_as}
use Rattle.der_tree.proofs.sequence.AnyDerType.to_tree.Goals as goal

pub returns : goal.returns
returns g c = encodes_as g.T.Form.codec g.T.Sequence.layout g.met.T.Sequence.is_sequence _ _ c.to_node.ensures
