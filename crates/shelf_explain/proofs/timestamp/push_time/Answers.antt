use Rattle.std.proofs.lemmas.List.{append_assoc}
use Rattle.shelf_explain.specs.Timestamps.{time_text}
use Rattle.shelf_explain.proofs.timestamp.push_time.Goals as goal

-- each text is the one before it and a part
pub returns : goal.returns
unfolding time_text
returns c =
    rw (
      c.in_ok-extend_from_slice-2.ensures.items,
      c.in_ok-push_labelled_number.ensures,
      c.first.ensures,
      c.after.ensures,
      c.in_ok-extend_from_slice.ensures.items,
      c.below_line.ensures,
    ) (simp append_assoc)
