use Rattle.std.proofs.Common.{◌≡◌, ◌++◌, take}
use Rattle.lint_files.specs.Findings.{located}
use Rattle.lint_files.proofs.finding.push_located.Given as goal

abbrev pub invariant-loop-finding : goal.invariant-loop-finding
invariant-loop-finding l = l.found.items ≡ l.initial.found.items ++ located l.number l.label (take l.finding-index l.findings)
