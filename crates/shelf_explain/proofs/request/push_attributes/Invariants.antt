use Rattle.std.proofs.Common.{◌≡◌, ◌++◌, take}
use Rattle.std.specs.List.{flat_map}
use Rattle.shelf_explain.specs.Requests.{attribute_lines}
use Rattle.shelf_explain.proofs.request.push_attributes.Given as goal

abbrev pub invariant-loop-attribute : goal.invariant-loop-attribute
invariant-loop-attribute l = l.lines.items ≡ l.initial.lines.items ++ flat_map attribute_lines (take l.attribute-index l.attributes)
