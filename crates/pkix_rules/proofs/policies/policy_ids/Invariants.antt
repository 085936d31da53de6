use Rattle.std.proofs.Common.{◌≡◌, ◌++◌, Bor, List, drop, map, ℕ}
use Rattle.pkix_rules.specs.Policies.{policy_ids}
use Rattle.pkix_rules.proofs.policies.policy_ids.Given as goal

-- what was taken, and what is to come
abbrev pub invariant-loop-policy : goal.invariant-loop-policy
invariant-loop-policy l =
    map (λ (id : Bor (List ℕ)). id.now) l.ids.items ++ policy_ids (drop l.policy-index l.policies) ≡ policy_ids l.policies
