use Rattle.std.proofs.Common.{◌≡◌, ◌++◌, filter, not, take}
use Rattle.path_policies.specs.Policies.{is_among}
use Rattle.path_policies.proofs.levels.push_others.Given as goal

abbrev pub invariant-loop-policy : goal.invariant-loop-policy
invariant-loop-policy l = l.accepted.items ≡ l.fn.accepted.items ++ filter (λ p. not (is_among p l.policies)) (take l.policy-index l.users)
