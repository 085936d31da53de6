use Rattle.std.proofs.Common.{◌≡◌}
use Rattle.path_names.specs.Significant.{are_same, significant_of}
use Rattle.path_names.proofs.significant.are_same.Given as goal

-- so far each has been the same
abbrev pub invariant-loop-character : goal.invariant-loop-character
invariant-loop-character l =
    are_same (significant_of l.character-iterator) (significant_of l.others) ≡ are_same (significant_of l.fn.a) (significant_of l.fn.b)
