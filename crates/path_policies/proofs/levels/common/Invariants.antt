use Rattle.std.proofs.Common.{◌≡◌, filter, take}
use Rattle.path_policies.specs.Policies.{is_among}
use Rattle.path_policies.proofs.levels.common.Given as goal

abbrev pub invariant-loop-policy : goal.invariant-loop-policy
invariant-loop-policy l = l.accepted.items ≡ filter (λ p. is_among p l.users) (take l.policy-index l.policies)
