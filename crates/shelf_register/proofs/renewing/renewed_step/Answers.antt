use Rattle.shelf_register.proofs.Steps.{renew}
use Rattle.shelf_register.proofs.renewing.renewed_step.Goals as goal

pub returns : goal.returns
returns c =
    renew _ _ _ _ _ _ _ _ c.in_ok-certificate.ensures.has c.in_ok-certificate.ensures.named c.in_ok-octets.ensures c.in_ok-step.ensures
