use Rattle.std.proofs.Common.{FitsSigned, arith, rules, to_z-of_z, w64}
use Rattle.std.specs.Int.{w128}
use Rattle.jiff.proofs.SpanFacts.{signed_arith}
use Rattle.register_lines.proofs.Seconds.{in_range}
use Rattle.register_lines.proofs.time.instant_at.Goals as goal

pub from_nanosecond_in_range-at-requires : goal.from_nanosecond_in_range-at-requires
from_nanosecond_in_range-at-requires c =
    let f : FitsSigned w64 c.args.seconds = c.ranges.seconds in
    let n = simp to_z-of_z at c.nanoseconds.ensures in
    let g : FitsSigned w128 c.nanoseconds.result = first_of (search rules, omega (arith, signed_arith, c.nanoseconds.type_inv)) in
    rw (to_z-of_z g, n) (in_range c.args.seconds c.requires)
