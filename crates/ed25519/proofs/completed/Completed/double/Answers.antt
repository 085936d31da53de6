use Rattle.std.proofs.Common.{◌≡◌, ◌∙◌, ap, refl}
use Rattle.ed25519.specs.Field.{times}
use Rattle.ed25519.specs.Extended.{extended_double}
use Rattle.ed25519.specs.Elements.{residue, completed_coordinates}
use Rattle.ed25519.proofs.Coordinates.{same_coordinates, doubled_by}
use Rattle.ed25519.proofs.completed.Completed.double.Goals as goal

pub returns : goal.returns
unfolding completed_coordinates
returns c =
    let t = times (residue c.args.self.now.e) (residue c.args.self.now.h) in
    let same : t ≡ t = refl in
    doubled_by _ _ _ t _ _ _ _ _ _ _ _ _ _
    c.square-a.ensures c.square-b.ensures c.square-half.ensures c.add-c.ensures c.add-h.ensures c.add.ensures c.square.ensures c.subtract-e.ensures
    c.subtract-g.ensures c.add-f.ensures
    ∙ ap extended_double (same_coordinates _ _ _ _ _ _ _ _ c.multiply-x.ensures c.multiply-y.ensures c.multiply-z.ensures same)
