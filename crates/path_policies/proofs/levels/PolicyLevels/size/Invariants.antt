use Rattle.std.proofs.Common.{◌≡◌, ◌^◌, ◌-◌, min, take}
use Rattle.std.specs.List.{sum_by}
use Rattle.path_policies.specs.Growth.{level_size}
use Rattle.path_policies.proofs.levels.PolicyLevels.size.Given as goal

abbrev pub invariant-loop-level : goal.invariant-loop-level
invariant-loop-level l = (l.size ≡ min (sum_by level_size (take l.level-index l.level-items)) (2 ^ 64 - 1)) × (l.level-items ≡ l.self)
