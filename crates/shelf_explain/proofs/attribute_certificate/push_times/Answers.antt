use Rattle.std.proofs.lemmas.List.{append_assoc}
use Rattle.shelf_explain.specs.AttributeCertificates.{times_lines}
use Rattle.shelf_explain.proofs.attribute_certificate.push_times.Goals as goal

-- each text is the one before it and a line
pub returns : goal.returns
unfolding times_lines
returns c =
    rw (
      c.in_ok-push_line-3.ensures,
      c.in_ok-push_line-2.ensures,
      c.in_ok-push_line.ensures,
      c.in_ok-push_serial_line.ensures,
    ) (simp append_assoc)
