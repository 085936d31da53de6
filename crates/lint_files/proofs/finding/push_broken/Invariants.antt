use Rattle.std.proofs.Common.{◌≡◌, ◌++◌, map, take}
use Rattle.lint_files.specs.Findings.{broken}
use Rattle.lint_files.proofs.finding.push_broken.Given as goal

abbrev pub invariant-loop-rule : goal.invariant-loop-rule
invariant-loop-rule l = l.found.items ≡ l.initial.found.items ++ map broken (take l.rule-index l.rules)
