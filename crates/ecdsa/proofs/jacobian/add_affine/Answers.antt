use Rattle.std.proofs.Common.{◌<◌, arith}
use Rattle.modular.specs.Numbers.{value}
use Rattle.ecdsa.proofs.Scaled.{by_square, by_cube, number_below}
use Rattle.ecdsa.proofs.jacobian.add_affine.Goals as goal

pub returns-clause-stands : goal.returns-clause-stands
returns-clause-stands g c = λ P h.
    let more = c.args.field.now.above_three in
    let pos : 0 < value c.args.field.now.modulus.limbs.now = omega arith in
    c.add_scaled.ensures.stands P _ _ (number_below _ c.args.other.now.x pos) (number_below _ c.args.other.now.y pos)
    (by_square _ _ _ _ _ c.square-zz.ensures.number c.multiply-x.ensures.number)
    (by_cube _ _ _ _ _ _ c.square-zz.ensures.number c.multiply-zzz.ensures.number c.multiply-y.ensures.number) h
