use Rattle.std.proofs.Common.{◌≡◌, drop}
use Rattle.shelf_params.specs.Parameters.{accesses}
use Rattle.shelf_params.proofs.Lists.{behind}
use Rattle.shelf_params.proofs.parameters.accesses.Given as goal

-- what is made so far, and of what is left, is the whole
abbrev pub invariant-loop-text : goal.invariant-loop-text
invariant-loop-text l = behind l.list.items (accesses l.method (drop l.text-index l.uris)) ≡ accesses l.method l.uris
