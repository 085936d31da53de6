use Rattle.std.proofs.Common.{◌≡◌, drop}
use Rattle.shelf_params.specs.AskedNames.{attributes_shown}
use Rattle.shelf_params.proofs.asked_names.attributes_shown.Given as goal

-- what the rest comes to is what the whole does
abbrev pub invariant-loop-attribute : goal.invariant-loop-attribute
invariant-loop-attribute l = attributes_shown (drop l.attribute-index l.attributes) ≡ attributes_shown l.attributes
