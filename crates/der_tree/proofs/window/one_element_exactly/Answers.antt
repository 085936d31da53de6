use Rattle.std.proofs.Common.{ap, ◌∙◌}
use Rattle.der_tree.specs.Element.{one_element}
use Rattle.der_tree.specs.laws.Element.{one_element_again, one_element_takes}
use Rattle.der_tree.proofs.window.one_element_exactly.Goals as goal

pub returns : goal.returns
returns c = λ b s. (λ e. let t = one_element_takes b s e in (t.1, t.0), λ x. ap one_element x.1 ∙ one_element_again s x.0)
