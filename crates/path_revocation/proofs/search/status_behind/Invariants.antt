use Rattle.std.proofs.Common.{◌≡◌, drop, fold}
use Rattle.path_revocation.specs.Search.{after_lists, first_state}
use Rattle.path_revocation.proofs.search.status_behind.Given as goal

-- from here on the points come to what they come to as a whole
abbrev pub invariant-loop-point : goal.invariant-loop-point
invariant-loop-point l =
    fold (after_lists l.subject l.findings) l.state (drop l.point-index l.points) ≡ fold (after_lists l.subject l.findings) first_state l.points
