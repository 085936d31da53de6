use Rattle.std.proofs.Common.{◌≡◌, Bor, map, take}
use Rattle.path_revocation.specs.Search.{status_among}
use Rattle.path_revocation.specs.declared.given.GivenList.{GivenList}
use Rattle.path_revocation.proofs.search.statuses_by.Given as goal

abbrev pub invariant-loop-certificate : goal.invariant-loop-certificate
invariant-loop-certificate l =
    l.statuses.items ≡ map (status_among (map (λ (b : Bor GivenList). b.now) l.sound) l.inputs) (take l.certificate-index l.path)
