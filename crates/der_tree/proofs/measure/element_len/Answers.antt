use Rattle.der_tree.proofs.Measuring.{element_length}
use Rattle.der_tree.proofs.measure.element_len.Goals as goal

pub returns-in-Some-clause-length : goal.returns-in-Some-clause-length
returns-in-Some-clause-length c b x e = element_length c.args.tag b x c.args.size c.identifier_len.result c.length_len.result c.in-Some.number (c.identifier_len.ensures.value b) c.length_len.ensures.value (rw c.in-Some.is at c.checked_add.ensures).1 e
