use Rattle.std.proofs.Common.{◌≡◌, ◌^◌, ◌-◌, min, take}
use Rattle.std.specs.List.{sum_by}
use Rattle.path_names.specs.Sizes.{name_size}
use Rattle.path_names.proofs.size.names_size.Given as goal

abbrev pub invariant-loop-name : goal.invariant-loop-name
invariant-loop-name l = l.size ≡ min (sum_by name_size (take l.name-index l.names)) (2 ^ 64 - 1)
