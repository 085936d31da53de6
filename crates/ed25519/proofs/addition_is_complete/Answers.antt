use Rattle.ed25519.proofs.Laws.{denominators, sum_is_on}
use Rattle.ed25519.proofs.addition_is_complete.Goals as goal

pub returns-clause-denominators : goal.returns-clause-denominators
returns-clause-denominators c = denominators

pub returns-clause-sum : goal.returns-clause-sum
returns-clause-sum c = sum_is_on
