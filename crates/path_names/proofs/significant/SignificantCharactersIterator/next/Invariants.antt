use Rattle.std.proofs.Common.{◌≡◌, length}
use Rattle.path_names.specs.Significant.{mapped_of, significant_of}
use Rattle.path_names.proofs.significant.SignificantCharactersIterator.next.Given as goal

-- what is left is the same
abbrev pub invariant-loop-code : goal.invariant-loop-code
invariant-loop-code l = significant_of l.self ≡ significant_of l.initial.self

abbrev pub decreases-loop-code : goal.decreases-loop-code
decreases-loop-code l = length (mapped_of l.self.rest)
