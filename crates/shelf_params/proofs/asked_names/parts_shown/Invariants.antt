use Rattle.std.proofs.Common.{◌≡◌, drop}
use Rattle.shelf_params.specs.AskedNames.{parts_shown}
use Rattle.shelf_params.proofs.asked_names.parts_shown.Given as goal

-- what the rest comes to is what the whole does
abbrev pub invariant-loop-part : goal.invariant-loop-part
invariant-loop-part l = parts_shown (drop l.part-index l.parts) ≡ parts_shown l.parts
