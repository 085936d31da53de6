use Rattle.std.proofs.Common.{◌≡◌, length}
use Rattle.shelf_explain.proofs.PartSteps.{after_parts}
use Rattle.shelf_explain.proofs.part_text.push_parts.Given as goal

abbrev pub invariant-loop-part : goal.invariant-loop-part
invariant-loop-part g l =
    after_parts l.lines.items l.before g.P.ShowPart.part_text l.left ≡ after_parts l.initial.lines.items l.before g.P.ShowPart.part_text l.fn.parts

abbrev pub decreases-loop-part : goal.decreases-loop-part
decreases-loop-part g l = length l.left
