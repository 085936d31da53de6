use Rattle.std.proofs.Common.{◌≡◌, length}
use Rattle.lint_files.specs.Json.{citation}
use Rattle.lint_files.proofs.json.citation.Given as goal

abbrev pub invariant-loop-rest : goal.invariant-loop-rest
invariant-loop-rest l = citation l.rest ≡ citation l.text

abbrev pub decreases-loop-rest : goal.decreases-loop-rest
decreases-loop-rest l = length l.rest
