use Rattle.ed25519.specs.Elements.{residue, coordinates}
use Rattle.ed25519.specs.Curve.{d}
use Rattle.ed25519.proofs.Coordinates.{twice_d_is, product_of, product_with, twice_product, sum_by}
use Rattle.ed25519.proofs.point.ExtendedPoint.add.Goals as goal

pub returns : goal.returns
unfolding coordinates residue
returns c =
    sum_by (residue c.args.self.now.x) (residue c.args.self.now.y) (residue c.args.self.now.z) (residue c.args.self.now.t)
    (residue c.args.other.now.x) (residue c.args.other.now.y) (residue c.args.other.now.z) (residue c.args.other.now.t)
    (residue c.multiply-a.result) (residue c.multiply-b.result) (residue c.multiply-c.result) (residue c.add-d.result)
    (residue c.subtract-e.result) (residue c.subtract-f.result) (residue c.add-g.result) (residue c.add-h.result) _ _ _ _
    (product_of _ _ _ _ _ c.multiply-a.ensures c.subtract.ensures c.subtract-2.ensures)
    (product_of _ _ _ _ _ c.multiply-b.ensures c.add.ensures c.add-2.ensures)
    (product_with _ _ _ _ _ d c.multiply-c.ensures c.multiply.ensures twice_d_is)
    (twice_product _ _ _ _ c.add-d.ensures c.multiply-half.ensures)
    c.subtract-e.ensures c.subtract-f.ensures c.add-g.ensures c.add-h.ensures
    c.multiply-2.ensures c.multiply-3.ensures c.multiply-4.ensures c.multiply-5.ensures
