use Rattle.std.proofs.Common.{ap, ◌∙◌}
use Rattle.der_tree.specs.Element.{split}
use Rattle.der_tree.specs.laws.Element.{split_again, split_takes}
use Rattle.der_tree.proofs.window.elements_exactly.Goals as goal

pub returns : goal.returns
returns c = λ b ss. (λ e. let t = split_takes b ss e in (t.1, t.0), λ x. ap split x.1 ∙ split_again ss x.0)
