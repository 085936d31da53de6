use Rattle.shelf_register.proofs.Seals.{certificate_seals}
use Rattle.shelf_register.proofs.sealing.seal_certificate_now.Goals as goal

pub returns : goal.returns
returns c =
    certificate_seals _ _ _ _ _ _ _ _ _ _ _ _ _ c.in_ok-octets.ensures c.in_ok-copy.ensures c.new-taken.ensures c.in_ok-event.ensures
    c.recorded.ensures.event c.as_slice.ensures.value c.in_ok-text.ensures c.recorded.ensures.text
