use Rattle.explained_whole.proofs.Explained.{explained}
use Rattle.explained_whole.proofs.laws.lines_are_explained.Goals as goal

pub returns : goal.returns
returns c = λ certificate octets form. explained certificate octets ((c.value_exactly.ensures octets certificate).1 form)
