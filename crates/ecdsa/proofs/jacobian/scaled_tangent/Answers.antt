use Rattle.std.proofs.Common.{◌<◌, arith}
use Rattle.modular.specs.Numbers.{value}
use Rattle.ecdsa.proofs.Scaled.{scaled_slope, number_below}
use Rattle.ecdsa.proofs.jacobian.scaled_tangent.Goals as goal

pub returns-clause-number : goal.returns-clause-number
returns-clause-number g c =
    let f = c.args.field.now in
    let pos : 0 < value f.modulus.limbs.now = let m = f.above_three in omega arith in
    let l = number_below (value f.modulus.limbs.now) c.args.zz.now pos in
    scaled_slope _ _ _ _ _ _ _ _ pos (omega arith) c.subtract.ensures.number c.add.ensures.number c.multiply-product.ensures.number
    c.double.ensures.number c.add-2.ensures.number
