use Rattle.rcgen_tbs.proofs.to_be_signed.octets.Goals as goal

pub returns-clause-form : goal.returns-clause-form
returns-clause-form g c = rw c.in_ok-octets.ensures.value at c.encode.ensures.ok
