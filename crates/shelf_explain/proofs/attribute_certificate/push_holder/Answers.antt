use Rattle.std.proofs.lemmas.List.{append_assoc}
use Rattle.shelf_explain.specs.AttributeCertificates.{holder_lines}
use Rattle.shelf_explain.proofs.attribute_certificate.push_holder.Goals as goal

-- each text is the one before it and a part
pub returns : goal.returns
unfolding holder_lines
returns c =
    rw (
      c.in_ok-push_line_of-3.ensures,
      c.in_ok-push_line_of-2.ensures,
      c.in_ok-push_line_of.ensures,
      c.as_ref.ensures.value,
      c.as_ref-2.ensures.value,
      c.as_ref-3.ensures.value,
    ) (simp append_assoc)
