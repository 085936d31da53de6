use Rattle.std.proofs.Common.{◌≡◌, ◌++◌, take}
use Rattle.path_policies.proofs.policy.push_copies.Given as goal

abbrev pub invariant-loop-policy : goal.invariant-loop-policy
invariant-loop-policy l = l.policies.items ≡ l.fn.policies.items ++ take l.policy-index l.more
