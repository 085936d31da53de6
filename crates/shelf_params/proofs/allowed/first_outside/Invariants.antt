use Rattle.std.proofs.Common.{◌≡◌, drop, find, map}
use Rattle.rcgen_text.specs.AlternativeNames.{alternative_name}
use Rattle.shelf_params.specs.Allowed.{is_outside}
use Rattle.shelf_params.proofs.allowed.first_outside.Given as goal

-- those before are in a subtree
abbrev pub invariant-loop-name : goal.invariant-loop-name
invariant-loop-name l =
    find (is_outside l.subtrees) (map alternative_name l.names) ≡ find (is_outside l.subtrees) (map alternative_name (drop l.name-index l.names))
