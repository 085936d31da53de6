use Rattle.std.proofs.Common.{◌≡◌, Bor, filter, map, take}
use Rattle.register_record.specs.declared.state.Certificate.{Certificate}
use Rattle.register_words.specs.Find.{matches}
use Rattle.register_words.proofs.finding.find.Given as goal

abbrev pub invariant-loop-certificate : goal.invariant-loop-certificate
invariant-loop-certificate l =
    map (λ (b : Bor Certificate). b.now) l.found.items ≡ filter (matches l.query) (take l.certificate-index l.certificates)
