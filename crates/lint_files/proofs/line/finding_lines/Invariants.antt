use Rattle.std.proofs.Common.{◌≡◌, take}
use Rattle.std.specs.List.{flat_map}
use Rattle.lint_files.specs.Lines.{finding_line}
use Rattle.lint_files.proofs.line.finding_lines.Given as goal

abbrev pub invariant-loop-located : goal.invariant-loop-located
invariant-loop-located l = l.lines.items ≡ flat_map finding_line (take l.located-index l.found)
