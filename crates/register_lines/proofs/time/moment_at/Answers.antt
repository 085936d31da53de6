use Rattle.std.proofs.Common.{FitsSigned, to_z-of_z, w64}
use Rattle.register_lines.proofs.Seconds.{utc_at}
use Rattle.register_lines.proofs.time.moment_at.Goals as goal

pub returns-clause-utc : goal.returns-clause-utc
returns-clause-utc c =
    let f : FitsSigned w64 c.args.seconds = c.ranges.seconds in
    let n = simp to_z-of_z at c.instant_at-moment.ensures in
    utc_at c.instant_at-moment.result c.args.seconds n c.requires
