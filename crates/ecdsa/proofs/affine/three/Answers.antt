use Rattle.ecdsa.proofs.Sums.{three_is}
use Rattle.ecdsa.proofs.affine.three.Goals as goal

pub returns-clause-number : goal.returns-clause-number
returns-clause-number g c =
    three_is _ _ _ _ c.args.field.now.above_three c.one-one.ensures.number c.double.ensures.number c.add.ensures.number
