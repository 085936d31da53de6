use Rattle.ed25519.specs.Elements.{coordinates}
use Rattle.ed25519.specs.Extended.{is_same_extended}
use Rattle.ed25519.proofs.Coordinates.{not_same, same_by}
use Rattle.ed25519.proofs.point.ExtendedPoint.is_same.Goals as goal

pub returns-then-not-is_same : goal.returns-then-not-is_same
unfolding coordinates is_same_extended
returns-then-not-is_same c = not_same c.is_same.result _ _ _ _ _ c.is_same.ensures c.multiply.ensures c.multiply-2.ensures c.if-not-is_same.true

pub returns : goal.returns
unfolding coordinates is_same_extended
returns c =
    same_by c.is_same.result _ _ _ _ _ _ _ _ _ c.is_same.ensures c.multiply.ensures c.multiply-2.ensures c.if-not-is_same.false
    c.is_same-2.ensures c.multiply-3.ensures c.multiply-4.ensures
