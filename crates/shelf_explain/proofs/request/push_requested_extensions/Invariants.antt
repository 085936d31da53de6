use Rattle.std.proofs.Common.{◌≡◌, ◌++◌, take}
use Rattle.std.specs.List.{flat_map}
use Rattle.shelf_explain.specs.Requests.{requested_in}
use Rattle.shelf_explain.proofs.request.push_requested_extensions.Given as goal

abbrev pub invariant-loop-value : goal.invariant-loop-value
invariant-loop-value l = l.lines.items ≡ l.initial.lines.items ++ flat_map requested_in (take l.value-index l.values)
