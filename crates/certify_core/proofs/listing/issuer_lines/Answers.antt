use Rattle.certify_core.specs.Listing.{issuer_lines}
use Rattle.certify_core.proofs.listing.issuer_lines.Goals as goal

-- each text is the one before it and a line
pub returns : goal.returns
unfolding issuer_lines
returns c =
    rw (c.in_ok-push_line-3.ensures, c.in_ok-push_line-2.ensures, c.in_ok-push_line.ensures, c.new-lines.ensures.items)
