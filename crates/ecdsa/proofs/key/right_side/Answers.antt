use Rattle.ecdsa.proofs.Keys.{right_side_is}
use Rattle.ecdsa.proofs.key.right_side.Goals as goal

pub returns-clause-number : goal.returns-clause-number
returns-clause-number g c =
    right_side_is _ _ _ _ _ _ _ _ _ _ c.args.field.now.above_three c.square-square.ensures.number c.multiply-cube.ensures.number
    c.double.ensures.number c.add-triple.ensures.number c.subtract-difference.ensures.number c.element_of.ensures.number c.add.ensures.number
