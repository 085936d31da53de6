use Rattle.std.proofs.Common.{◌≡◌, take}
use Rattle.std.specs.List.{flat_map}
use Rattle.path_policies.proofs.level.expected_policies.Given as goal

abbrev pub invariant-loop-node : goal.invariant-loop-node
invariant-loop-node l = (l.policies.items ≡ flat_map (λ v. v.expected_policy_set) (take l.node-index l.node-items)) × (l.node-items ≡ l.above)
