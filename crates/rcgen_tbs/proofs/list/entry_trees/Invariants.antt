use Rattle.std.specs.Prelude.{map, take}
use Rattle.rcgen_issue.specs.CrlView.{revoked_view}
use Rattle.rcgen_tbs.specs.Frames.{AreEntries}
use Rattle.rcgen_tbs.proofs.list.entry_trees.Given as goal

abbrev pub invariant-loop-params : goal.invariant-loop-params
invariant-loop-params l = AreEntries (map revoked_view (take l.params-index l.revoked)) l.trees
