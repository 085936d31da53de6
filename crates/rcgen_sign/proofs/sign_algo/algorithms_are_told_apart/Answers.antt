use Rattle.rcgen_sign.proofs.AlgorithmLemmas.{equal_is, no_other, told_apart}
use Rattle.rcgen_sign.proofs.sign_algo.algorithms_are_told_apart.Goals as goal

pub returns-clause-equal : goal.returns-clause-equal
returns-clause-equal c = equal_is

pub returns-clause-no_other : goal.returns-clause-no_other
returns-clause-no_other c = no_other

pub returns-clause-apart : goal.returns-clause-apart
returns-clause-apart c = told_apart
