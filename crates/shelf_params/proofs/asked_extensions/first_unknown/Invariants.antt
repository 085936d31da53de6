use Rattle.std.proofs.Common.{◌≡◌, drop, find}
use Rattle.shelf_params.specs.AskedExtensions.{is_unknown}
use Rattle.shelf_params.proofs.asked_extensions.first_unknown.Given as goal

-- those before are known
abbrev pub invariant-loop-extension : goal.invariant-loop-extension
invariant-loop-extension l = find is_unknown l.extensions ≡ find is_unknown (drop l.extension-index l.extensions)
