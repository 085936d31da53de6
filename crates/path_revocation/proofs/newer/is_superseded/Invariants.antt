use Rattle.std.proofs.Common.{◌≡◌, Bor, drop, map}
use Rattle.std.specs.List.{list_any}
use Rattle.path_revocation.specs.Newer.{supersedes}
use Rattle.path_revocation.specs.declared.given.GivenList.{GivenList}
use Rattle.path_revocation.proofs.newer.is_superseded.Given as goal

-- from here on the lists come to what they come to as a whole
abbrev pub invariant-loop-other : goal.invariant-loop-other
invariant-loop-other l =
    list_any (supersedes l.at l.given l.delta) (map (λ (b : Bor GivenList). b.now) (drop l.other-index l.sound))
    ≡ list_any (supersedes l.at l.given l.delta) (map (λ (b : Bor GivenList). b.now) l.sound)
