use Rattle.std.proofs.Common.{◌≡◌, ◌++◌, take}
use Rattle.std.specs.List.{flat_map}
use Rattle.shelf_explain.specs.Lists.{entry_lines}
use Rattle.shelf_explain.proofs.list.push_all_entries.Given as goal

abbrev pub invariant-loop-entry : goal.invariant-loop-entry
invariant-loop-entry l = l.lines.items ≡ l.initial.lines.items ++ flat_map entry_lines (take l.entry-index l.entries)
