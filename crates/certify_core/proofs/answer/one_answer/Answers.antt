use Rattle.certify_core.specs.Command.{Gives, spec}
use Rattle.certify_core.specs.laws.CommandSpec.{comes_to_one}
use Rattle.certify_core.proofs.Ends.{one_answer}
use Rattle.certify_core.proofs.answer.one_answer.Goals as goal

pub returns : goal.returns
returns c = λ command input. one_answer (Gives command input) (comes_to_one (spec command input))
