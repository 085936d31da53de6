use Rattle.std.proofs.Common.{◌≡◌, ◌&&◌, None, is_some, length, map}
use Rattle.der_tree.specs.Element.{element_octets}
use Rattle.der_tree.specs.SequenceOf.{list_get}
use Rattle.der_tree.specs.SetOf.{in_order}
use Rattle.der_tree.proofs.SetLaws.{ascends_from}
use Rattle.pkix_cert.proofs.seen.are_shown_in_order.Given as goal

abbrev pub invariant-loop-window : goal.invariant-loop-window
invariant-loop-window g l =
    (ascends_from l.before (map element_octets l.left.elements) && (is_some (list_get g.T.Form.codec l.missing None l.left.elements) && l.left.complete))
    ≡ (in_order l.fn.elements.elements && (is_some (list_get g.T.Form.codec l.fn.min None l.fn.elements.elements) && l.fn.elements.complete))

abbrev pub decreases-loop-window : goal.decreases-loop-window
decreases-loop-window g l = length l.left.elements
