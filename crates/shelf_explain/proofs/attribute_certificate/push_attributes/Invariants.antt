use Rattle.std.proofs.Common.{◌≡◌, ◌++◌, take}
use Rattle.std.specs.List.{flat_map}
use Rattle.shelf_explain.specs.Requests.{plain_attribute}
use Rattle.shelf_explain.proofs.attribute_certificate.push_attributes.Given as goal

abbrev pub invariant-loop-attribute : goal.invariant-loop-attribute
invariant-loop-attribute l = l.lines.items ≡ l.initial.lines.items ++ flat_map plain_attribute (take l.attribute-index l.attributes)
