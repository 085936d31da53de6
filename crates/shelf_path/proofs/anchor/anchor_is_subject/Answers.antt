use Rattle.shelf_path.proofs.Anchors.{anchored}
use Rattle.shelf_path.proofs.anchor.anchor_is_subject.Goals as goal

pub returns : goal.returns
returns c octets p number e = anchored c.parts_of_each_view.ensures octets p number e
