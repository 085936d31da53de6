use Rattle.shelf_register.proofs.Seals.{list_seals}
use Rattle.shelf_register.proofs.sealing.seal_list_now.Goals as goal

pub returns : goal.returns
returns c =
    list_seals _ _ _ _ _ _ _ _ _ _ _ _ _ c.in_ok-octets.ensures c.new-taken.ensures c.in_ok-event.ensures c.recorded.ensures.event
    c.list_label.ensures.label c.as_slice.ensures.value c.in_ok-text.ensures c.recorded.ensures.text
