use Rattle.std.proofs.Common.{FitsSigned, to_z-of_z, w64}
use Rattle.shelf_register.proofs.Issued.{decided}
use Rattle.shelf_register.proofs.issuing.reservation.Goals as goal

pub returns-in-Ok-clause-event : goal.returns-in-Ok-clause-event
returns-in-Ok-clause-event c =
    let f : FitsSigned w64 c.args.not_after = c.ranges.not_after in
    let e = simp to_z-of_z at c.in-Ok.ensures in
    decided _ _ _ e
