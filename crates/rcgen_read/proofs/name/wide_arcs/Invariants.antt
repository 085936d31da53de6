use Rattle.std.specs.Prelude.{◌≡◌, take}
use Rattle.rcgen_read.proofs.name.wide_arcs.Given as goal

abbrev pub invariant-loop-arc : goal.invariant-loop-arc
invariant-loop-arc l = l.arcs.items ≡ take l.arc-index l.id
