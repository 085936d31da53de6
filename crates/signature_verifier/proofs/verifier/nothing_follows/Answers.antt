use Rattle.signature_verifier.proofs.Laws.{algorithm_ends, key_ends}
use Rattle.signature_verifier.proofs.verifier.nothing_follows.Goals as goal

pub returns-clause-key : goal.returns-clause-key
returns-clause-key c = key_ends

pub returns-clause-algorithm : goal.returns-clause-algorithm
returns-clause-algorithm c = algorithm_ends
