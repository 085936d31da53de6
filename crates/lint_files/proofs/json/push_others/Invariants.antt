use Rattle.std.proofs.Common.{◌≡◌, ◌++◌, take}
use Rattle.std.specs.List.{flat_map}
use Rattle.lint_files.specs.Json.{separated}
use Rattle.lint_files.proofs.json.push_others.Given as goal

abbrev pub invariant-loop-located : goal.invariant-loop-located
invariant-loop-located l = l.json.items ≡ l.initial.json.items ++ flat_map separated (take l.located-index l.found)
