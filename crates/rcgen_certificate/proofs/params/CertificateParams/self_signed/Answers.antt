use Rattle.rcgen_certificate.proofs.params.CertificateParams.self_signed.Goals as goal

pub returns-clause-ok : goal.returns-clause-ok
returns-clause-ok g c = rw c.from_params-issuer.ensures.field at c.signed_by.ensures.ok

pub returns-clause-why : goal.returns-clause-why
returns-clause-why g c =
    let made = c.from_params-issuer.ensures in
    rw (made.field, made.method, made.usages, made.key) at c.signed_by.ensures.why

pub returns-clause-issued : goal.returns-clause-issued
returns-clause-issued g c =
    let made = c.from_params-issuer.ensures in
    rw (made.field, made.method, made.usages, made.key) at c.signed_by.ensures.issued
