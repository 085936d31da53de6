use Rattle.std.proofs.Common.{◌≡◌, length}
use Rattle.lint_files.specs.Json.{behind}
use Rattle.lint_files.proofs.json.behind.Given as goal

abbrev pub invariant-loop-rest : goal.invariant-loop-rest
invariant-loop-rest l = behind l.mark l.rest ≡ behind l.mark l.text

abbrev pub decreases-loop-rest : goal.decreases-loop-rest
decreases-loop-rest l = length l.rest
