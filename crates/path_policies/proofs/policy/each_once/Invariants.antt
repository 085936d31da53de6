use Rattle.std.proofs.Common.{◌≡◌}
use Rattle.path_policies.specs.Policies.{each_once}
use Rattle.path_policies.proofs.policy.each_once.Given as goal

abbrev pub invariant-loop-policy : goal.invariant-loop-policy
invariant-loop-policy l = l.once.items ≡ each_once l.yielded
