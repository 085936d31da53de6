use Rattle.std.proofs.Common.{◌≡◌, ◌++◌, drop}
use Rattle.lint_files.specs.Json.{up_to}
use Rattle.lint_files.proofs.json.push_up_to.Given as goal

abbrev pub invariant-loop-octet : goal.invariant-loop-octet
invariant-loop-octet l = l.json.items ++ up_to l.mark (drop l.octet-index l.rest) ≡ l.initial.json.items ++ up_to l.mark l.rest
