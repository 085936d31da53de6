use Rattle.std.proofs.lemmas.List.{append_assoc}
use Rattle.shelf_explain.specs.Times.{rfc_3339}
use Rattle.shelf_explain.proofs.time.push_rfc_3339.Goals as goal

-- each text is the one before it and a part
pub returns : goal.returns
unfolding rfc_3339
returns c =
    rw (
      c.in_ok-extend_from_slice-6.ensures.items,
      c.after.ensures,
      c.in_ok-push-5.ensures.items,
      c.in_ok-extend_from_slice-5.ensures.items,
      c.part-4.ensures,
      c.in_ok-push-4.ensures.items,
      c.in_ok-extend_from_slice-4.ensures.items,
      c.part-3.ensures,
      c.in_ok-push-3.ensures.items,
      c.in_ok-extend_from_slice-3.ensures.items,
      c.part-2.ensures,
      c.in_ok-push-2.ensures.items,
      c.in_ok-extend_from_slice-2.ensures.items,
      c.part.ensures,
      c.in_ok-push.ensures.items,
      c.in_ok-extend_from_slice.ensures.items,
      c.first.ensures,
    ) (simp append_assoc)
