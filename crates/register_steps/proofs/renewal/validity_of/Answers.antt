use Rattle.std.proofs.Common.{FitsSigned, to_z-of_z, w64}
use Rattle.register_steps.proofs.renewal.validity_of.Goals as goal

pub returns-clause-first : goal.returns-clause-first
returns-clause-first c =
    let f : FitsSigned w64 c.args.not_before = c.ranges.not_before in
    let t = simp to_z-of_z at c.from_to-validity.ensures.first in
    t

pub returns-clause-last : goal.returns-clause-last
returns-clause-last c =
    let f : FitsSigned w64 c.args.not_after = c.ranges.not_after in
    let t = simp to_z-of_z at c.from_to-validity.ensures.last in
    t
