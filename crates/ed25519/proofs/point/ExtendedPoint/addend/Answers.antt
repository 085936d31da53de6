use Rattle.ed25519.specs.Elements.{residue, coordinates}
use Rattle.ed25519.proofs.Coordinates.{twice_d_is, product_twice_d}
use Rattle.ed25519.proofs.point.ExtendedPoint.addend.Goals as goal

pub returns : goal.returns
unfolding coordinates residue
returns c = record {
  difference = c.subtract.ensures;
  sum = c.add.ensures;
  product = product_twice_d _ _ _ c.multiply.ensures twice_d_is;
  one = c.requires;
}
