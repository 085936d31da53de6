use Rattle.std.proofs.Common.{◌≡◌, ◌++◌, take}
use Rattle.std.specs.List.{flat_map}
use Rattle.shelf_explain.specs.Lines.{below_line}
use Rattle.shelf_explain.proofs.show.push_below.Given as goal

abbrev pub invariant-loop-part : goal.invariant-loop-part
invariant-loop-part g l =
    l.lines.items ≡ l.initial.lines.items ++ flat_map (λ part. below_line ++ g.T.ShowText.text part) (take l.part-index l.parts)
