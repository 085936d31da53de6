use Rattle.std.proofs.Common.{◌≡◌, ◌++◌, length}
use Rattle.lint_files.specs.Json.{words}
use Rattle.lint_files.proofs.json.push_words.Given as goal

abbrev pub invariant-loop-rest : goal.invariant-loop-rest
invariant-loop-rest l = l.json.items ++ words l.rest ≡ l.initial.json.items ++ words l.text

abbrev pub decreases-loop-rest : goal.decreases-loop-rest
decreases-loop-rest l = length l.rest
