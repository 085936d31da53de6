use Rattle.std.proofs.Common.{◌≡◌, ◌++◌, take}
use Rattle.std.specs.List.{flat_map}
use Rattle.path_policies.specs.Levels.{any_left, roots_of}
use Rattle.path_policies.proofs.levels.PolicyLevels.authority_constrained.Given as goal

abbrev pub invariant-loop-level : goal.invariant-loop-level
invariant-loop-level l = (l.policies.items ≡ any_left l.self ++ flat_map roots_of (take l.level-index l.level-items)) × (l.level-items ≡ l.self)
