use Rattle.std.proofs.Common.{◌≡◌, take}
use Rattle.shelf_params.specs.AskedExtensions.{without_ignored}
use Rattle.shelf_params.proofs.asked_extensions.without_ignored.Given as goal

-- those kept so far
abbrev pub invariant-loop-extension : goal.invariant-loop-extension
invariant-loop-extension l = l.kept.items ≡ without_ignored l.skips_key_id l.ignored (take l.extension-index l.extensions)
