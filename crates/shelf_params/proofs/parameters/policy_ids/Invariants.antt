use Rattle.std.proofs.Common.{◌≡◌, ◌++◌, Bor, List, drop, map, ℕ}
use Rattle.pkix_trust.specs.declared.policy.PolicyInformation.{PolicyInformation}
use Rattle.shelf_params.proofs.parameters.policy_ids.Given as goal

-- what was taken, and what is to come
abbrev pub invariant-loop-policy : goal.invariant-loop-policy
invariant-loop-policy l =
    map (λ (id : Bor (List ℕ)). id.now) l.ids.items ++ map (λ (p : PolicyInformation). p.policy_identifier) (drop l.policy-index l.policies)
    ≡ map (λ (p : PolicyInformation). p.policy_identifier) l.policies
