use Rattle.rcgen_tbs.proofs.subject_certificate.certificate_to_be_signed_for.Goals as goal

pub returns-in-Known-clause-message : goal.returns-in-Known-clause-message
returns-in-Known-clause-message g c = rw c.in-Known.is c.certificate_to_be_signed.ensures.message

pub returns-in-Other-clause-message : goal.returns-in-Other-clause-message
returns-in-Other-clause-message g c = rw c.in-Other.is c.info_to_be_signed.ensures.message
