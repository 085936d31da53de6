use Rattle.std.proofs.Common.{◌≡◌, ◌++◌, map, take}
use Rattle.lint_files.specs.Lines.{shown_character}
use Rattle.lint_files.proofs.line.push_label.Given as goal

abbrev pub invariant-loop-octet : goal.invariant-loop-octet
invariant-loop-octet l = l.line.items ≡ l.initial.line.items ++ map shown_character (take l.octet-index l.label)
