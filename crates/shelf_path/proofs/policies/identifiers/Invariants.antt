use Rattle.std.proofs.Common.{◌≡◌}
use Rattle.std.specs.Vec.Iter.{into_iter_items}
use Rattle.shelf_path.specs.Asked.{identifiers}
use Rattle.shelf_path.proofs.Lists.{behind}
use Rattle.shelf_path.proofs.policies.identifiers.Given as goal

-- what is made so far, and of what is left, is the whole
abbrev pub invariant-loop-arcs : goal.invariant-loop-arcs
invariant-loop-arcs l = behind l.list.items (identifiers (into_iter_items l.arcs-iterator)) ≡ identifiers l.fn.policies.items
