use Rattle.der_tree.specs.Windows.{shown}
use Rattle.signature_verifier.proofs.Reading.{octets_behind}
use Rattle.signature_verifier.proofs.public_key.whole_octets.Goals as goal

pub returns-then-unused-eq0 : goal.returns-then-unused-eq0
returns-then-unused-eq0 c =
    octets_behind (shown c.args.window) c.in_ok-contents.field-0.now c.in_ok-contents.ensures c.in-len1-up.len_at_least c.if-unused-eq0.true
