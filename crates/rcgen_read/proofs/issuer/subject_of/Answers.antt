use Rattle.rcgen_read.proofs.issuer.subject_of.Goals as goal

pub returns-in-Ok-clause-formed : goal.returns-in-Ok-clause-formed
returns-in-Ok-clause-formed c = c.decoded_name_stands.ensures c.in-Ok.name _ c.in-Ok.ensures.found
