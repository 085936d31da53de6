use Rattle.std.proofs.Common.{◌≡◌, ◌++◌, drop, map}
use Rattle.shelf_explain.specs.Rows.{rows_lines}
use Rattle.shelf_explain.specs.Tables.{as_row}
use Rattle.shelf_explain.proofs.row.push_rows.Given as goal

-- what is pushed, and what is left
abbrev pub invariant-loop-row : goal.invariant-loop-row
invariant-loop-row l = l.lines.items ++ rows_lines (map as_row (drop l.row-index l.rows)) l.left ≡ l.initial.lines.items ++ rows_lines (map as_row l.rows) l.fn.parts
