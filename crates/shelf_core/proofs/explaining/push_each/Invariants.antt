use Rattle.std.proofs.Common.{◌≡◌, ◌++◌, take}
use Rattle.std.specs.List.{flat_map}
use Rattle.shelf_core.specs.Explaining.{apart}
use Rattle.shelf_core.proofs.explaining.push_each.Given as goal

abbrev pub invariant-loop-block : goal.invariant-loop-block
invariant-loop-block l = l.text.items ≡ l.initial.text.items ++ flat_map (apart l.is_long) (take l.block-index l.blocks)
