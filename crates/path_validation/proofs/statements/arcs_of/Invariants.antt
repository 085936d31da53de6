use Rattle.std.proofs.Common.{◌≡◌, Bor, List, map, take, ℕ}
use Rattle.path_validation.proofs.statements.arcs_of.Given as goal

abbrev pub invariant-loop-policy : goal.invariant-loop-policy
invariant-loop-policy l =
    (map (λ (arcs : Bor (List ℕ)). arcs.now) l.all.items ≡ map (λ p. p.policy_identifier) (take l.policy-index l.policy-items)) × (l.policy-items ≡ l.policies)
