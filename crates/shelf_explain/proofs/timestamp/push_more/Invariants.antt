use Rattle.std.proofs.Common.{◌≡◌, ◌++◌, drop}
use Rattle.shelf_explain.specs.Timestamps.{more_timestamps}
use Rattle.shelf_explain.proofs.timestamp.push_more.Given as goal

-- what has been pushed, and what is left to push
abbrev pub invariant-loop-step : goal.invariant-loop-step
invariant-loop-step l =
    l.lines.items ++ more_timestamps (drop l._step-index l.octets) l.left ≡ l.initial.lines.items ++ more_timestamps l.octets l.octets
