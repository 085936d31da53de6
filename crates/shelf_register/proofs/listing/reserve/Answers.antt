use Rattle.shelf_register.proofs.Listed.{reserved}
use Rattle.shelf_register.proofs.listing.reserve.Goals as goal

pub returns-clause-event : goal.returns-clause-event
returns-clause-event c =
    reserved c.args.list.now _ _ _ _ _ _ c.as_slice.ensures.value c.in_ok-message.ensures c.in_ok-event.ensures c.recorded.ensures.event
