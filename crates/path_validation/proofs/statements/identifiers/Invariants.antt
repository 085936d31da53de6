use Rattle.std.proofs.Common.{◌≡◌, map, take}
use Rattle.path_validation.proofs.statements.identifiers.Given as goal

abbrev pub invariant-loop-policy : goal.invariant-loop-policy
invariant-loop-policy l = (l.identifiers.items ≡ map (λ p. p.policy_identifier) (take l.policy-index l.policy-items)) × (l.policy-items ≡ l.policies)
