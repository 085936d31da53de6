use Rattle.std.proofs.Common.{◌≡◌, drop}
use Rattle.certify_core.specs.Check.{accepts_some}
use Rattle.certify_core.proofs.check.SomeVerifierVerifier.verify.Given as goal

-- those that are left decide
abbrev pub invariant-loop-verifier : goal.invariant-loop-verifier
invariant-loop-verifier l =
    accepts_some l.verifiers l.info l.key_info l.algorithm l.signature ≡ accepts_some (drop l.verifier-index l.verifiers) l.info l.key_info l.algorithm l.signature
