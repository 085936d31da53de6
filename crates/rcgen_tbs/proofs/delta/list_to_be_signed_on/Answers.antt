use Rattle.rcgen_tbs.proofs.delta.list_to_be_signed_on.Goals as goal

pub returns-in-Some-clause-message : goal.returns-in-Some-clause-message
returns-in-Some-clause-message g c = rw c.in-Some.is c.delta_to_be_signed.ensures.message

pub returns-in-None-clause-message : goal.returns-in-None-clause-message
returns-in-None-clause-message g c = rw c.in-None.is c.crl_to_be_signed.ensures.message
