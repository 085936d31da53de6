use Rattle.std.proofs.Common.{◌≡◌, ◌<◌, true, ◌∙◌, arith, rules}
use Rattle.modular.specs.Numbers.{value}
use Rattle.ecdsa.proofs.Scaled.{coordinates_are}
use Rattle.ecdsa.proofs.jacobian.coordinates_of.Goals as goal

pub returns-clause-same : goal.returns-clause-same
returns-clause-same g c =
    let t : c.is_same.result ≡ true = search rules in
    let more : 1 < value c.args.field.now.modulus.limbs.now = let m = c.args.field.now.above_three in omega arith in
    coordinates_are _ _ _ _ _ _ _ _ _ _ more c.multiply.ensures.number (c.is_same.ensures.0 t ∙ c.one.ensures.number)
    c.square-square.ensures.number c.multiply-cube.ensures.number c.multiply-x.ensures.number c.multiply-y.ensures.number
