use Rattle.std.proofs.Common.{◌≡◌, ◌^◌, ◌-◌, min, take}
use Rattle.std.specs.List.{sum_by}
use Rattle.path_validation.specs.Names.{subtrees_size}
use Rattle.path_validation.proofs.names.size_in.Given as goal

abbrev pub invariant-loop-set : goal.invariant-loop-set
invariant-loop-set l = (l.size ≡ min (sum_by subtrees_size (take l.set-index l.set-items)) (2 ^ 64 - 1)) × (l.set-items ≡ l.sets)
