use Rattle.std.proofs.lemmas.List.{append_assoc}
use Rattle.shelf_explain.specs.AttributeCertificates.{info_lines}
use Rattle.shelf_explain.proofs.attribute_certificate.push_info.Goals as goal

-- each text is the one before it and a line
pub returns : goal.returns
unfolding info_lines
returns c =
    rw (
      c.in_ok-push_titled_extensions.ensures,
      c.in_ok-push_line_of.ensures,
      c.in_ok-push_attributes.ensures,
      c.in_ok-push_times.ensures,
      c.in_ok-push_issuer.ensures,
      c.in_ok-push_holder.ensures,
      c.as_ref.ensures.value,
      c.as_ref-2.ensures.value,
      c.as_slice.ensures,
    ) (simp append_assoc)
