use Rattle.std.proofs.Common.{◌≡◌, drop, find}
use Rattle.shelf_job.specs.Issuers.{is_basic_constraints}
use Rattle.shelf_job.proofs.issuer.basic_constraints_in.Given as goal

-- none of those before is
abbrev pub invariant-loop-extension : goal.invariant-loop-extension
invariant-loop-extension l = find is_basic_constraints l.extensions ≡ find is_basic_constraints (drop l.extension-index l.extensions)
