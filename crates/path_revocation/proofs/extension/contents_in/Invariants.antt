use Rattle.std.proofs.Common.{◌≡◌, drop}
use Rattle.path_revocation.specs.Extensions.{contents_in}
use Rattle.path_revocation.proofs.extension.contents_in.Given as goal

abbrev pub invariant-loop-extension : goal.invariant-loop-extension
invariant-loop-extension l = contents_in l.id (drop l.extension-index l.extensions) ≡ contents_in l.id l.extensions
