use Rattle.std.proofs.Common.{◌≡◌, drop, fold}
use Rattle.path_revocation.specs.Search.{step}
use Rattle.path_revocation.proofs.search.after_lists.Given as goal

-- from here on the lists come to what they come to as a whole
abbrev pub invariant-loop-finding : goal.invariant-loop-finding
invariant-loop-finding l =
    fold (step l.subject l.point) l.state (drop l.finding-index l.findings) ≡ fold (step l.subject l.point) l.fn.search l.findings
