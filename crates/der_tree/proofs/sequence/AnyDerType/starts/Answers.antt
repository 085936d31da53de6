use Rattle.std.proofs.Common.{rules}
use Rattle.der_tree.proofs.SequenceLaws.{starts_as}
use Rattle.der_tree.proofs.sequence.AnyDerType.starts.Goals as goal

pub returns : goal.returns
returns g c = let e = starts_as g.T.Form.codec g.T.Sequence.layout g.met.T.Sequence.is_sequence c.args.tag in rw e (search rules)
