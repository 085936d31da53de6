use Rattle.std.proofs.Common.{◌≡◌, ◌++◌}
use Rattle.path_policies.specs.Levels.{pruned_above}
use Rattle.path_policies.proofs.Pruning.{parents_behind}
use Rattle.path_policies.proofs.levels.pruned.Given as goal

abbrev pub invariant-loop-level : goal.invariant-loop-level
invariant-loop-level l = record {
  kept : l.levels.items ≡ l.initial.levels.items ++ pruned_above l.initial.parents.items l.yielded;
  parents : l.parents.items ≡ parents_behind l.initial.parents.items l.yielded;
}
