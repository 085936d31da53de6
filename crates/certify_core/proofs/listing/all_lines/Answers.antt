use Rattle.certify_core.specs.ListedParts.{listing_in}
use Rattle.certify_core.proofs.listing.all_lines.Goals as goal

pub returns : goal.returns
unfolding listing_in
returns c =
    rw (c.in_ok-push_value-2.ensures, c.in_ok-push_value.ensures, c.in_ok-lines.ensures, c.signature_algorithm.ensures, c.signature.ensures)
