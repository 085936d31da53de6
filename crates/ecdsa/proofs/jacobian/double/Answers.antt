use Rattle.ecdsa.proofs.Scaled.{doubled}
use Rattle.ecdsa.proofs.jacobian.double.Goals as goal

pub returns-clause-stands : goal.returns-clause-stands
returns-clause-stands g c =
    doubled _ _ _ _ _ _ _ _ _ _ _ _ _ _ _ _ _ _ c.args.field.now.above_three
    c.square.ensures.number c.scaled_tangent-slope.ensures.number c.square-yy.ensures.number c.multiply-xyy.ensures.number
    c.double.ensures.number c.double-x.ensures.number c.square-yyyy.ensures.number c.double-2.ensures.number c.double-3.ensures.number
    c.double-y.ensures.number c.multiply.ensures.number c.double-z.ensures.number c.third_on_line-third.ensures.x c.third_on_line-third.ensures.y
