use Rattle.std.proofs.Common.{◌≡◌, ◌++◌, drop, reverse}
use Rattle.std.specs.List.{flat_map}
use Rattle.shelf_explain.proofs.show.push_joined_from_last.Given as goal

abbrev pub invariant-loop-i : goal.invariant-loop-i
invariant-loop-i g l =
    l.lines.items ≡ l.initial.lines.items ++ flat_map (λ part. l.separator ++ g.T.ShowText.text part) (reverse (drop l.i l.front))
