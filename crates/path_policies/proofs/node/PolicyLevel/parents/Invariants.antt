use Rattle.std.proofs.Common.{◌≡◌, take}
use Rattle.path_policies.specs.Levels.{parents_of}
use Rattle.path_policies.proofs.node.PolicyLevel.parents.Given as goal

abbrev pub invariant-loop-node : goal.invariant-loop-node
invariant-loop-node l = (l.parents.items ≡ parents_of (take l.node-index l.node-items)) × (l.node-items ≡ l.self)
