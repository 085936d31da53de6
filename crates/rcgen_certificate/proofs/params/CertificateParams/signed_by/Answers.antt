use Rattle.rcgen_certificate.proofs.params.CertificateParams.signed_by.Goals as goal

pub returns-clause-issued : goal.returns-clause-issued
returns-clause-issued g c = (c.in_ok-certificate._value, c.in_ok-certificate.ensures.issued)
