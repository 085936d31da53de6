use Rattle.std.proofs.lemmas.List.{append_assoc}
use Rattle.shelf_explain.specs.PartTexts.{unreadable_at}
use Rattle.shelf_explain.proofs.part_text.push_unreadable_at.Goals as goal

pub returns : goal.returns
unfolding unreadable_at
returns c =
    rw (c.in_ok-push_hex.ensures, c.octets.ensures, c.in_ok-extend_from_slice.ensures.items, c.in_ok-push_place.ensures) (simp append_assoc)
