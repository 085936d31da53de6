use Rattle.std.proofs.lemmas.List.{append_assoc}
use Rattle.shelf_explain.specs.Requests.{info_lines}
use Rattle.shelf_explain.proofs.request.push_info.Goals as goal

-- each text is the one before it and a line
pub returns : goal.returns
unfolding info_lines
returns c =
    rw (
      c.in_ok-push_attributes.ensures,
      c.in_ok-push_line-2.ensures,
      c.in_ok-push_key_lines.ensures,
      c.in_ok-push_line.ensures,
      c.as_slice.ensures.values,
    ) (simp append_assoc)
