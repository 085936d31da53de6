use Rattle.std.proofs.Common.{FitsSigned, to_z-of_z, w64}
use Rattle.register_steps.proofs.renewal.from_to.Goals as goal

pub returns-clause-first : goal.returns-clause-first
returns-clause-first c =
    let f : FitsSigned w64 c.args.not_before = c.ranges.not_before in
    let t = simp to_z-of_z at c.time_at.ensures.value in
    t

pub returns-clause-last : goal.returns-clause-last
returns-clause-last c =
    let f : FitsSigned w64 c.args.not_after = c.ranges.not_after in
    let t = simp to_z-of_z at c.time_at-2.ensures.value in
    t
