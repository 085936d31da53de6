use Rattle.std.proofs.Common.{◌≡◌, drop}
use Rattle.shelf_register.specs.Subjects.{names_contents}
use Rattle.shelf_register.proofs.subject.names_contents.Given as goal

abbrev pub invariant-loop-extension : goal.invariant-loop-extension
invariant-loop-extension l = names_contents (drop l.extension-index l.extensions) ≡ names_contents l.extensions
