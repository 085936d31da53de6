use Rattle.std.proofs.Common.{◌≡◌, take}
use Rattle.path_policies.specs.Levels.{named_nodes}
use Rattle.path_policies.proofs.level.named_nodes.Given as goal

abbrev pub invariant-loop-policy : goal.invariant-loop-policy
invariant-loop-policy l = l.nodes.items ≡ named_nodes l.above (take l.policy-index l.policies)
