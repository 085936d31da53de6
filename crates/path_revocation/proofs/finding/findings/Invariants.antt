use Rattle.std.proofs.Common.{◌≡◌, Bor, map, take}
use Rattle.path_revocation.specs.Search.{finding_of}
use Rattle.path_revocation.specs.declared.given.GivenList.{GivenList}
use Rattle.path_revocation.proofs.finding.findings.Given as goal

abbrev pub invariant-loop-given : goal.invariant-loop-given
invariant-loop-given l =
    l.all.items
    ≡ map (finding_of (map (λ (b : Bor GivenList). b.now) l.sound) l.inputs l.subject) (map (λ (b : Bor GivenList). b.now) (take l.given-index l.sound))
