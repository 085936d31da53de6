use Rattle.std.proofs.Common.{FitsSigned, to_z-of_z, w64}
use Rattle.shelf_register.proofs.renewing.message_of.Goals as goal

pub returns-in-Ok : goal.returns-in-Ok
returns-in-Ok c =
    let f : FitsSigned w64 c.args.start = c.ranges.start in
    let g : FitsSigned w64 c.args.end = c.ranges.end in
    let r = simp to_z-of_z at c.in-Ok.ensures.ok in
    r
