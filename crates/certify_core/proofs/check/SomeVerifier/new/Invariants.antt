use Rattle.std.proofs.Common.{◌≡◌}
use Rattle.certify_core.proofs.check.SomeVerifier.new.Given as goal

abbrev pub invariant-loop-secret : goal.invariant-loop-secret
invariant-loop-secret l = l.verifiers.items ≡ l.yielded
