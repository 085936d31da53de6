use Rattle.std.proofs.Common.{◌≡◌, take}
use Rattle.std.specs.List.{flat_map}
use Rattle.rule_texts.specs.Lines.{finding_line}
use Rattle.rule_texts.proofs.line.finding_lines.Given as goal

abbrev pub invariant-loop-rule : goal.invariant-loop-rule
invariant-loop-rule l = l.lines.items ≡ flat_map finding_line (take l.rule-index l.rules)
