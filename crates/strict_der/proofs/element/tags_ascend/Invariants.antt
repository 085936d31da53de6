use Rattle.std.proofs.Common.{◌≡◌, length}
use Rattle.strict_der.specs.Strict.{tags_ascend, tags_ascend_from}
use Rattle.strict_der.proofs.element.tags_ascend.Given as goal

abbrev pub invariant-loop-window : goal.invariant-loop-window
invariant-loop-window l = tags_ascend_from l.before l.left ≡ tags_ascend l.fields

abbrev pub decreases-loop-window : goal.decreases-loop-window
decreases-loop-window l = length l.left
