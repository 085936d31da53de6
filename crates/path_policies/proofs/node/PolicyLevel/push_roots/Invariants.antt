use Rattle.std.proofs.Common.{◌≡◌, ◌++◌, take}
use Rattle.path_policies.specs.Levels.{roots_of}
use Rattle.path_policies.proofs.node.PolicyLevel.push_roots.Given as goal

abbrev pub invariant-loop-node : goal.invariant-loop-node
invariant-loop-node l = (l.policies.items ≡ l.fn.policies.items ++ roots_of (take l.node-index l.node-items)) × (l.node-items ≡ l.self)
