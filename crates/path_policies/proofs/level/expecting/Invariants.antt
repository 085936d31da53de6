use Rattle.std.proofs.Common.{◌≡◌, take}
use Rattle.path_policies.specs.Levels.{expecting}
use Rattle.path_policies.proofs.level.expecting.Given as goal

abbrev pub invariant-loop-node : goal.invariant-loop-node
invariant-loop-node l = (l.parents.items ≡ expecting l.policy (take l.node-index l.node-items)) × (l.node-items ≡ l.above)
