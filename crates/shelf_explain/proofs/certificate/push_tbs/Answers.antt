use Rattle.std.proofs.lemmas.List.{append_assoc}
use Rattle.shelf_explain.specs.Blocks.{tbs_lines}
use Rattle.shelf_explain.proofs.certificate.push_tbs.Goals as goal

-- each text is the one before it and a line
pub returns : goal.returns
unfolding tbs_lines
returns c =
    rw (
      c.in_ok-push_titled_extensions.ensures,
      c.in_ok-push_line_of-2.ensures,
      c.in_ok-push_line_of.ensures,
      c.in_ok-push_line.ensures,
      c.in_ok-push_key_lines.ensures,
      c.in_ok-push_names_and_times.ensures,
      c.as_ref.ensures.value,
      c.as_ref-2.ensures.value,
      c.as_ref-3.ensures.value,
    ) (simp append_assoc)
