use Rattle.std.proofs.Common.{sym}
use Rattle.der_tree.specs.Windows.{shown}
use Rattle.signature_verifier.proofs.Reading.{are_shortest, digits_behind}
use Rattle.signature_verifier.proofs.public_key.positive.Goals as goal

pub returns-else-is_empty : goal.returns-else-is_empty
returns-else-is_empty c =
    digits_behind (shown c.args.window) c.in_ok-octets.octets.now c.in_ok-octets.ensures
    (are_shortest c.in_ok-octets.octets.now (sym c.if-not-is_contents.ensures)) c.in-len1-up.len_at_least c.in-0.is (sym c.if-is_empty.ensures)
