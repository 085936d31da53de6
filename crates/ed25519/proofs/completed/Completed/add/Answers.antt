use Rattle.std.proofs.Common.{◌∙◌, ap, refl}
use Rattle.ed25519.specs.Extended.{Coordinates, extended_add}
use Rattle.ed25519.specs.Elements.{residue, coordinates, completed_coordinates}
use Rattle.ed25519.proofs.Coordinates.{added_by, product_of}
use Rattle.ed25519.proofs.completed.Completed.add.Goals as goal

pub returns : goal.returns
unfolding coordinates completed_coordinates
returns c = λ P k.
    (added_by (residue c.point-point.result.x) (residue c.point-point.result.y) (residue c.point-point.result.z) (residue c.point-point.result.t) _ _ _ _ _ _ _ _ _ _ _ P
    k.difference k.sum k.product k.one
    (product_of _ _ _ _ _ c.multiply-a.ensures c.subtract.ensures refl) (product_of _ _ _ _ _ c.multiply-b.ensures c.add.ensures refl) c.multiply-c.ensures c.add-d.ensures
    c.subtract-e.ensures c.subtract-f.ensures c.add-g.ensures c.add-h.ensures
    ∙ ap (λ (C : Coordinates). extended_add C P) c.point-point.ensures)
