use Rattle.std.proofs.Common.{◌≡◌, ◌++◌, length}
use Rattle.lint_files.specs.Json.{section}
use Rattle.lint_files.proofs.json.push_section.Given as goal

abbrev pub invariant-loop-rest : goal.invariant-loop-rest
invariant-loop-rest l = l.json.items ++ section l.rest ≡ l.initial.json.items ++ section l.text

abbrev pub decreases-loop-rest : goal.decreases-loop-rest
decreases-loop-rest l = length l.rest
