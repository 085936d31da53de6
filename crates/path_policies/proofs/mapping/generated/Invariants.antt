use Rattle.std.proofs.Common.{◌≡◌, filter, map, not, take}
use Rattle.path_policies.specs.Levels.{generated_node, has_policy, issuer_domain_policies}
use Rattle.path_policies.proofs.mapping.generated.Given as goal

abbrev pub invariant-loop-policy : goal.invariant-loop-policy
invariant-loop-policy l = (l.nodes.items ≡ map (generated_node l.mappings) (filter (λ p. not (has_policy p l.level)) (take l.policy-index l.policy-items)))
    × (l.policy-items ≡ issuer_domain_policies l.mappings)
