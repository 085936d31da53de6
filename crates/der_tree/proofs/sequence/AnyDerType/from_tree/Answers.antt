use Rattle.der_tree.proofs.SequenceLaws.{decodes_as}
use Rattle.der_tree.proofs.sequence.AnyDerType.from_tree.Goals as goal

pub returns : goal.returns
returns g c = decodes_as g.T.Form.codec g.T.Sequence.layout g.met.T.Sequence.is_sequence _ _ c.from_node.ensures
