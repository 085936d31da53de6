use Rattle.std.proofs.Common.{◌≡◌, ◌&&◌, None, is_some, length}
use Rattle.der_tree.specs.SequenceOf.{list_get}
use Rattle.pkix_cert.proofs.seen.are_shown.Given as goal

abbrev pub invariant-loop-window : goal.invariant-loop-window
invariant-loop-window g l =
    (is_some (list_get g.T.Form.codec l.missing None l.left.elements) && l.left.complete)
    ≡ (is_some (list_get g.T.Form.codec l.fn.min None l.fn.elements.elements) && l.fn.elements.complete)

abbrev pub decreases-loop-window : goal.decreases-loop-window
decreases-loop-window g l = length l.left.elements
