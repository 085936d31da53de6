use Rattle.std.proofs.Common.{◌<◌, arith}
use Rattle.modular.specs.Numbers.{value}
use Rattle.ecdsa.proofs.Scaled.{next_none, next_first, first_stands, number_below}
use Rattle.ecdsa.proofs.jacobian.step.Goals as goal

pub returns-then-not-is_added-clause-stands : goal.returns-then-not-is_added-clause-stands
returns-then-not-is_added-clause-stands g c = λ P h. next_none _ _ _ _ _ c.if-not-is_added.true (rw c.in_default.is at h)

pub returns-in_default-clause-stands : goal.returns-in_default-clause-stands
returns-in_default-clause-stands g c = λ P h.
    let pos : 0 < value c.args.field.now.modulus.limbs.now = let m = c.args.field.now.above_three in omega arith in
    first_stands _ _ _ _ _ c.one.ensures.number (number_below _ c.args.other.now.x pos) (number_below _ c.args.other.now.y pos)
    (next_first _ _ _ _ _ c.if-not-is_added.false (rw c.in_default.is at h))
