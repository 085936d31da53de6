use Rattle.std.proofs.lemmas.List.{append_assoc}
use Rattle.shelf_explain.specs.Lists.{times_lines}
use Rattle.shelf_explain.proofs.list.push_times.Goals as goal

-- each text is the one before it and a line
pub returns : goal.returns
unfolding times_lines
returns c =
    rw (
      c.in_ok-push_line_of-2.ensures,
      c.in_ok-push_line_of.ensures,
      c.in_ok-push_line-2.ensures,
      c.in_ok-push_line.ensures,
      c.as_ref.ensures.value,
      c.as_ref-2.ensures.value,
    ) (simp append_assoc)
