use Rattle.certify_core.specs.ListedParts.{signed_lines}
use Rattle.certify_core.proofs.listing.signed_lines.Goals as goal

-- each text is the one before it and a line
pub returns : goal.returns
unfolding signed_lines
returns c =
    rw (
      c.in_ok-push_extensions.ensures,
      c.in_ok-push_line_of-2.ensures,
      c.in_ok-push_line_of.ensures,
      c.in_ok-push_key.ensures,
      c.in_ok-push_value-4.ensures,
      c.in_ok-push_validity.ensures,
      c.in_ok-push_value-3.ensures,
      c.in_ok-push_value-2.ensures,
      c.in_ok-push_value.ensures,
      c.in_ok-push_line.ensures,
      c.new-lines.ensures.items,
      c.as_ref-issuer_id.ensures.value,
      c.as_ref-subject_id.ensures.value,
      c.in_ok-others.ensures,
      c.tbs.ensures,
      c.serial_number.ensures,
      c.tbs_signature.ensures,
      c.issuer.ensures,
      c.validity.ensures,
      c.subject.ensures,
      c.key_info.ensures,
      c.extensions.ensures,
    )
