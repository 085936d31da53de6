use Rattle.std.proofs.Common.{◌≡◌, ◌++◌, drop}
use Rattle.explain_json.specs.Json.{at_title, json_from}
use Rattle.explain_json.proofs.push_blocks.Given as goal

-- what has been pushed, and what is left to push
abbrev pub invariant-loop-octet : goal.invariant-loop-octet
invariant-loop-octet l = l.json.items ++ json_from l.state (drop l.octet-index l.text) ≡ l.initial.json.items ++ json_from at_title l.text
