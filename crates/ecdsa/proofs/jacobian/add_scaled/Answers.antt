use Rattle.std.proofs.Common.{◌<◌, arith}
use Rattle.modular.specs.Numbers.{value}
use Rattle.ecdsa.proofs.Scaled.{added_scaled, number_below}
use Rattle.ecdsa.proofs.jacobian.add_scaled.Goals as goal

pub returns-clause-stands : goal.returns-clause-stands
returns-clause-stands g c =
    let more = c.args.field.now.above_three in
    let pos : 0 < value c.args.field.now.modulus.limbs.now = omega arith in
    added_scaled _ _ _ _ _ _ _ _ _ _ _ _ _ _ _ _ more (number_below _ c.args.point.now.x pos) (number_below _ c.args.point.now.y pos)
    c.subtract-run.ensures.number c.subtract-rise.ensures.number c.square-square.ensures.number c.multiply-cube.ensures.number
    c.multiply-x.ensures.number c.multiply-y.ensures.number c.add-other_x.ensures.number c.third_on_line-third.ensures.x
    c.third_on_line-third.ensures.y c.multiply-z.ensures.number
