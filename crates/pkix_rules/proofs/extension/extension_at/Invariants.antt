use Rattle.std.proofs.Common.{◌≡◌, drop}
use Rattle.pkix_rules.specs.Extensions.{extension_at}
use Rattle.pkix_rules.proofs.extension.extension_at.Given as goal

abbrev pub invariant-loop-extension : goal.invariant-loop-extension
invariant-loop-extension l = extension_at l.id (drop l.extension-index l.extensions) ≡ extension_at l.id l.extensions
