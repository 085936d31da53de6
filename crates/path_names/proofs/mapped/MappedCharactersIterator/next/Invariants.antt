use Rattle.std.proofs.Common.{◌≡◌, [], length}
use Rattle.pkix_name.specs.Characters.{codes_of}
use Rattle.path_names.specs.Preparation.{mapped}
use Rattle.path_names.specs.Significant.{mapped_of}
use Rattle.path_names.proofs.mapped.MappedCharactersIterator.next.Given as goal

-- what is left is the same, and nothing of it is in the queue
abbrev pub invariant-loop-code : goal.invariant-loop-code
invariant-loop-code l = record { same : mapped (codes_of l.self.rest) ≡ mapped_of l.initial.self; empty : l.self.queue.now ≡ [] }

abbrev pub decreases-loop-code : goal.decreases-loop-code
decreases-loop-code l = length (codes_of l.self.rest)
