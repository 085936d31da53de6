use Rattle.std.proofs.Common.{FitsSigned, to_z-of_z, w64}
use Rattle.shelf_register.proofs.Issued.{reserved}
use Rattle.shelf_register.proofs.issuing.reserve.Goals as goal

pub returns-clause-event : goal.returns-clause-event
returns-clause-event c =
    let f : FitsSigned w64 c.args.not_after = c.ranges.not_after in
    let e = simp to_z-of_z at c.in_ok-event.ensures.event in
    reserved _ _ _ _ _ _ _ _ c.as_slice.ensures.value c.in_ok-message.ensures e c.recorded.ensures.event
