use Rattle.std.proofs.Common.{None, ◌≡◌, Bor, drop, fold, map}
use Rattle.path_revocation.specs.Deltas.{newer}
use Rattle.path_revocation.specs.declared.given.GivenList.{GivenList}
use Rattle.path_revocation.proofs.delta.newest.Given as goal

-- from here on the lists come to what they come to as a whole
abbrev pub invariant-loop-other : goal.invariant-loop-other
invariant-loop-other l =
    fold (newer l.at l.subject l.given) l.best (map (λ (b : Bor GivenList). b.now) (drop l.other-index l.sound))
    ≡ fold (newer l.at l.subject l.given) None (map (λ (b : Bor GivenList). b.now) l.sound)
