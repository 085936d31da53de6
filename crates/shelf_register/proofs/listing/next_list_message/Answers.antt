use Rattle.shelf_register.proofs.Listed.{listed}
use Rattle.shelf_register.proofs.listing.next_list_message.Goals as goal

pub returns : goal.returns
returns c =
    listed _ _ _ _ _ _ _ _ _ _ _ _ _ _ _ c.in_ok-list.ensures.free c.in_ok-list.ensures.list c.in_ok-order.ensures c.in_ok-issuer.ensures
    c.in_ok-answer.ensures c.in_ok-step.ensures.done c.in_ok-step.ensures.event c.in_ok-step.ensures.text
