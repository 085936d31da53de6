use Rattle.std.proofs.Common.{option_map, take}
use Rattle.shelf_register.specs.Finding.{AreShown}
use Rattle.shelf_register.proofs.finding.found_text.Given as goal

abbrev pub invariant-loop-certificate : goal.invariant-loop-certificate
invariant-loop-certificate l =
    AreShown l.form l.query (option_map (λ text. text.now) l.name) (take l.certificate-index l.certificates) l.text.items
