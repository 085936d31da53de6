use Rattle.std.proofs.Common.{◌≡◌, ◌++◌}
use Rattle.std.specs.Vec.Iter.{into_iter_items}
use Rattle.shelf_profile.proofs.subject_name.attributes_of.Given as goal

abbrev pub invariant-loop-attribute : goal.invariant-loop-attribute
invariant-loop-attribute l = l.attributes.items ++ into_iter_items l.attribute-iterator ≡ l.fn.list
