use Rattle.std.proofs.lemmas.List.{append_assoc}
use Rattle.shelf_explain.specs.PartTexts.{whole_place}
use Rattle.shelf_explain.proofs.part_text.push_whole_place.Goals as goal

pub returns : goal.returns
unfolding whole_place
returns c = rw (c.in_ok-extend_from_slice.ensures.items, c.in_ok-push_place.ensures) (simp append_assoc)
