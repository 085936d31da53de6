use Rattle.shelf_register.proofs.Listed.{reservation}
use Rattle.shelf_register.proofs.listing.reservation.Goals as goal

pub returns-in-Ok : goal.returns-in-Ok
returns-in-Ok c = reservation _ c.args.list.now c.args.message c.args.record.now _ c.in-Ok.ensures
