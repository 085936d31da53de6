use Rattle.std.proofs.Common.{◌<◌, ◌*◌, ◌+◌, ◌^◌, ℕ, arith}
use Rattle.asn1_core.specs.GeneralizedTime.{pow_positive}
use Rattle.asn1_core.proofs.Fraction.{pow_most, next_below}
use Rattle.asn1_core.proofs.time.generalized_time.+fraction_of.Goals as goal

pub returns-then-is_z-clause-below : goal.returns-then-is_z-clause-below
returns-then-is_z-clause-below t c = pow_positive c.args.places

digits : (t : ℕ) (c : goal.After-pow t) → c.from.result * c.pow.result + c.in_ok-low.low < 10 ^ c.args.places
digits t c =
    let digit : c.from.result < 10 = grind arith in
    next_below c.from.result c.pow.result c.args.places c.in_ok-low.low c.pow.ensures (omega (arith, c.if-places-eq0.false)) digit c.in_ok-low.ensures.below

pub overflow_mul-fraction : goal.overflow_mul-fraction
overflow_mul-fraction t c = omega (arith, digits t c, pow_most c.args.places c.requires)

pub overflow_add-fraction : goal.overflow_add-fraction
overflow_add-fraction t c = omega (arith, digits t c, pow_most c.args.places c.requires)

pub returns-else-fraction-eq0-clause-below : goal.returns-else-fraction-eq0-clause-below
returns-else-fraction-eq0-clause-below t c =
    let digit : c.from.result < 10 = grind arith in
    next_below c.from.result c.pow.result c.args.places c.in_ok-low.low c.pow.ensures (omega (arith, c.if-places-eq0.false)) digit c.in_ok-low.ensures.below
