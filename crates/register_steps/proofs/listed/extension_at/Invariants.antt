use Rattle.std.proofs.Common.{◌≡◌, drop}
use Rattle.register_steps.specs.Listed.{extension_at}
use Rattle.register_steps.proofs.listed.extension_at.Given as goal

abbrev pub invariant-loop-extension : goal.invariant-loop-extension
invariant-loop-extension l = extension_at l.id (drop l.extension-index l.extensions) ≡ extension_at l.id l.extensions
