use Rattle.std.proofs.Common.{◌≡◌, drop}
use Rattle.lint_files.specs.Extensions.{contents_at}
use Rattle.lint_files.proofs.extension.contents_at.Given as goal

abbrev pub invariant-loop-extension : goal.invariant-loop-extension
invariant-loop-extension l = contents_at l.id (drop l.extension-index l.extensions) ≡ contents_at l.id l.extensions
