use Rattle.std.proofs.Common.{◌≡◌, filter, map, not, take}
use Rattle.path_policies.specs.Levels.{expected_child, expected_policies, has_policy}
use Rattle.path_policies.proofs.level.any_nodes.Given as goal

abbrev pub invariant-loop-policy : goal.invariant-loop-policy
invariant-loop-policy l = (l.nodes.items ≡ map (expected_child l.above) (filter (λ p. not (has_policy p l.named)) (take l.policy-index l.policy-items)))
    × (l.policy-items ≡ expected_policies l.above)
