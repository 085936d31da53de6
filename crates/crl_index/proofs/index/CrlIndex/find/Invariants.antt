use Rattle.std.proofs.Common.{◌-◌, ◌≤◌}
use Rattle.crl_index.proofs.Halving.{IsNarrowed}
use Rattle.crl_index.proofs.index.CrlIndex.find.Given as goal

abbrev pub invariant-loop-low : goal.invariant-loop-low
invariant-loop-low g l = IsNarrowed l.self-inside.serials l.serial l.low l.high (l.steps - l.fn.steps) × (l.fn.steps ≤ l.steps)

abbrev pub decreases-loop-low : goal.decreases-loop-low
decreases-loop-low g l = l.high - l.low
