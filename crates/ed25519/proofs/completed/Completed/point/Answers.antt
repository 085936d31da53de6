use Rattle.ed25519.specs.Elements.{coordinates, completed_coordinates}
use Rattle.ed25519.proofs.Coordinates.{same_coordinates}
use Rattle.ed25519.proofs.completed.Completed.point.Goals as goal

pub returns : goal.returns
unfolding coordinates completed_coordinates
returns c = same_coordinates _ _ _ _ _ _ _ _ c.multiply.ensures c.multiply-2.ensures c.multiply-3.ensures c.multiply-4.ensures
