use Rattle.std.specs.Prelude.{map, take}
use Rattle.std.specs.List.{AllByRecursion}
use Rattle.rcgen_issue.specs.CrlView.{revoked_view}
use Rattle.rcgen_issue.specs.ListTable.{HasCivilTimes}
use Rattle.rcgen_issue.proofs.list_table.entries_are_civil.Given as goal

abbrev pub invariant-loop-entry : goal.invariant-loop-entry
invariant-loop-entry l = AllByRecursion HasCivilTimes (map revoked_view (take l.entry-index l.entries))
