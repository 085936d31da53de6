use Rattle.ecdsa.proofs.Sums.{tangent_is}
use Rattle.ecdsa.proofs.affine.tangent.Goals as goal

pub returns-clause-number : goal.returns-clause-number
returns-clause-number g c = tangent_is _ _ _ _ _ _ _ _ _ _ c.three-three.ensures.number c.square-square.ensures.number
    c.multiply.ensures.number c.subtract-rise.ensures.number c.double-run.ensures.number c.inverse.ensures.number c.multiply-2.ensures.number
