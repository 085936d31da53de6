use Rattle.std.proofs.Common.{◌≡◌, drop, find}
use Rattle.shelf_params.specs.AskedExtensions.{is_key_id}
use Rattle.shelf_params.proofs.asked_extensions.first_key_id.Given as goal

-- those before are others
abbrev pub invariant-loop-extension : goal.invariant-loop-extension
invariant-loop-extension l = find is_key_id l.extensions ≡ find is_key_id (drop l.extension-index l.extensions)
