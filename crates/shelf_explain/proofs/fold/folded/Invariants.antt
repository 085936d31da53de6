use Rattle.std.proofs.Common.{◌≡◌, ◌++◌, drop}
use Rattle.shelf_explain.specs.Folding.{folded_from}
use Rattle.shelf_explain.proofs.fold.folded.Given as goal

-- what is folded, and what is left of it
abbrev pub invariant-loop-octet : goal.invariant-loop-octet
invariant-loop-octet l = l.lines.items ++ folded_from l.column (drop l.octet-index l.text) ≡ folded_from 0 l.text
