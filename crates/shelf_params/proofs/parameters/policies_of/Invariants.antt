use Rattle.std.proofs.Common.{◌≡◌}
use Rattle.std.specs.Vec.Iter.{into_iter_items}
use Rattle.shelf_params.specs.Parameters.{policies_of}
use Rattle.shelf_params.proofs.Lists.{behind}
use Rattle.shelf_params.proofs.parameters.policies_of.Given as goal

-- what is made so far, and of what is left, is the whole
abbrev pub invariant-loop-arcs : goal.invariant-loop-arcs
invariant-loop-arcs l = behind l.list.items (policies_of (into_iter_items l.arcs-iterator)) ≡ policies_of l.fn.policies.items
