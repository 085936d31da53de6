use Rattle.std.proofs.Common.{◌≡◌, ◌++◌, take}
use Rattle.std.specs.List.{flat_map}
use Rattle.lint_files.specs.Json.{shown_octet}
use Rattle.lint_files.proofs.json.push_label.Given as goal

abbrev pub invariant-loop-octet : goal.invariant-loop-octet
invariant-loop-octet l = l.json.items ≡ l.initial.json.items ++ flat_map shown_octet (take l.octet-index l.label)
