use Rattle.std.proofs.lemmas.List.{append_assoc}
use Rattle.shelf_explain.specs.Blocks.{names_and_times}
use Rattle.shelf_explain.proofs.certificate.push_names_and_times.Goals as goal

-- each text is the one before it and a line
pub returns : goal.returns
unfolding names_and_times
returns c =
    rw (
      c.in_ok-push_line-4.ensures,
      c.in_ok-push_line-3.ensures,
      c.in_ok-push_serial_line.ensures,
      c.in_ok-push_line-2.ensures,
      c.in_ok-push_line.ensures,
    ) (simp append_assoc)
