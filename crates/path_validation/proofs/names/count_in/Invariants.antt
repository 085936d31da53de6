use Rattle.std.proofs.Common.{◌≡◌, ◌^◌, ◌-◌, min, take}
use Rattle.path_validation.specs.Names.{count_in}
use Rattle.path_validation.proofs.names.count_in.Given as goal

abbrev pub invariant-loop-set : goal.invariant-loop-set
invariant-loop-set l = (l.count ≡ min (count_in (take l.set-index l.set-items)) (2 ^ 64 - 1)) × (l.set-items ≡ l.sets)
