use Rattle.std.proofs.Common.{refl}
use Rattle.ed25519.specs.Elements.{residue, coordinates}
use Rattle.ed25519.specs.Extended.{extended}
use Rattle.ed25519.proofs.Coordinates.{one_is, same_coordinates}
use Rattle.ed25519.proofs.point.ExtendedPoint.at.Goals as goal

pub returns : goal.returns
unfolding coordinates extended residue
returns c = same_coordinates _ _ _ _ _ _ _ _ refl refl one_is c.multiply.ensures
