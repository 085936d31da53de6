use Rattle.pkix_cert.proofs.Orders.{by_three}
use Rattle.pkix_cert.proofs.revocation.RevokedCertificatePartialOrd.partial_cmp.Goals as goal

pub returns : goal.returns
returns c = by_three _ _ _ _ _ _ c.partial_cmp.ensures.order c.or_partial_cmp.ensures c.or_partial_cmp-2.ensures
