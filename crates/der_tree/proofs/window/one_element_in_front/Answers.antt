use Rattle.der_tree.proofs.FrontLaws.{one_of_two}
use Rattle.der_tree.proofs.window.one_element_in_front.Goals as goal

pub returns : goal.returns
returns c s t rest p q e = one_of_two s t rest p q e
