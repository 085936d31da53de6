use Rattle.std.proofs.Common.{◌≡◌, ◌^◌, ◌-◌, min, take}
use Rattle.std.specs.List.{sum_by}
use Rattle.path_policies.specs.Growth.{node_size}
use Rattle.path_policies.proofs.node.PolicyLevel.size.Given as goal

abbrev pub invariant-loop-node : goal.invariant-loop-node
invariant-loop-node l = (l.size ≡ min (sum_by node_size (take l.node-index l.node-items)) (2 ^ 64 - 1)) × (l.node-items ≡ l.self)
