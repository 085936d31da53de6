use Rattle.rcgen_certificate.specs.Issuers.{view_of}
use Rattle.shelf_job.proofs.Told.{certificate_ready, certificate_refused, certificate_told}
use Rattle.shelf_job.proofs.job.CertificateJob.to_be_signed.Goals as goal

pub returns-clause-message : goal.returns-clause-message
returns-clause-message c =
    certificate_told c.args.self.now _ c.in_ok-key.key (view_of (λ k. k) c.in_ok-issuer.issuer) c.in_ok-message.message.items c.self.view_is
    c.in_ok-key.ensures c.in_ok-issuer.ensures.view c.in_ok-message.ensures.message

pub returns-clause-ready : goal.returns-clause-ready
returns-clause-ready c =
    certificate_ready c.args.self.now _ c.in_ok-key.key (view_of (λ k. k) c.in_ok-issuer.issuer) c.self.view_is
    c.in_ok-key.ensures c.in_ok-issuer.ensures.view c.in_ok-message.ensures.ready

pub returns-in_err-message-clause-ready : goal.returns-in_err-message-clause-ready
returns-in_err-message-clause-ready c =
    certificate_refused c.args.self.now _ c.in_ok-key.key (view_of (λ k. k) c.in_ok-issuer.issuer) c.from_residual-in_err-message.result
    c.in_err-message.field-0.0 c.self.view_is c.in_ok-key.ensures c.in_ok-issuer.ensures.view c.from_residual-in_err-message.ensures.1
    c.in_err-message.ensures.ready
