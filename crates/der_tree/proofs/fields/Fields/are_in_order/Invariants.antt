use Rattle.std.proofs.Common.{◌≡◌, length, map}
use Rattle.der_tree.specs.Element.{element_octets}
use Rattle.der_tree.specs.SetOf.{in_order}
use Rattle.der_tree.proofs.SetLaws.{ascends_from}
use Rattle.der_tree.proofs.fields.Fields.are_in_order.Given as goal

abbrev pub invariant-loop-window : goal.invariant-loop-window
invariant-loop-window l = ascends_from l.before (map element_octets l.left) ≡ in_order l.self

abbrev pub decreases-loop-window : goal.decreases-loop-window
decreases-loop-window l = length l.left
