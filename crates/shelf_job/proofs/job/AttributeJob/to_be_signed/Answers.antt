use Rattle.rcgen_certificate.specs.Issuers.{view_of}
use Rattle.shelf_job.proofs.Told.{attribute_told}
use Rattle.shelf_job.proofs.job.AttributeJob.to_be_signed.Goals as goal

pub returns-clause-message : goal.returns-clause-message
returns-clause-message c =
    attribute_told c.args.self.now _ c.as_slice.result.now c.in_ok-key.key (view_of (λ k. k) c.in_ok-issuer.issuer) c.in_ok-message.message.items c.self.view_is
    c.as_slice.ensures c.in_ok-key.ensures c.in_ok-issuer.ensures.view c.in_ok-message.ensures.message
