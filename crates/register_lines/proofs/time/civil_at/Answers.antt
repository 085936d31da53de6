use Rattle.std.proofs.Common.{FitsSigned, to_z-of_z, w64, ◌∙◌}
use Rattle.register_lines.proofs.time.civil_at.Goals as goal

pub returns : goal.returns
returns c =
    let f : FitsSigned w64 c.args.seconds = c.ranges.seconds in
    let n = simp to_z-of_z at c.moment_at.ensures.moment in
    (c.in-Some.ensures.value.0 ∙ n, c.in-Some.ensures.value.1)
