use Rattle.std.proofs.Common.{◌≡◌, ◌^◌, ◌+◌, ◌-◌, min, take}
use Rattle.std.specs.List.{sum_by}
use Rattle.path_names.specs.Sizes.{part_size}
use Rattle.path_names.proofs.size.parts_size.Given as goal

abbrev pub invariant-loop-part : goal.invariant-loop-part
invariant-loop-part l = l.size ≡ min (1 + sum_by part_size (take l.part-index l.parts)) (2 ^ 64 - 1)
