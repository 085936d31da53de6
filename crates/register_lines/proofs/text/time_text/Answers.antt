use Rattle.std.proofs.Common.{FitsSigned, append_assoc, rules, to_z-of_z, w64}
use Rattle.register_lines.proofs.text.time_text.Goals as goal

pub returns : goal.returns
returns c =
    let f : FitsSigned w64 c.args.seconds = c.ranges.seconds in
    let n = simp to_z-of_z at c.civil_at-at.ensures in
    (c.civil_at-at.result, n, first_of (search rules, search (rules, append_assoc)))
