use Rattle.signature_verifier.proofs.Laws.{accepted, one}
use Rattle.signature_verifier.proofs.verifier.accepted_by_one_scheme.Goals as goal

pub returns-clause-accepted : goal.returns-clause-accepted
returns-clause-accepted c = accepted

pub returns-clause-one : goal.returns-clause-one
returns-clause-one c = one
