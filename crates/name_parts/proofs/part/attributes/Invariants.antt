use Rattle.std.proofs.Common.{◌≡◌, [], length}
use Rattle.name_parts.specs.Parts.{attributes_from}
use Rattle.name_parts.proofs.part.attributes.Given as goal

-- what is read on from here is the whole
abbrev pub invariant-loop-rest : goal.invariant-loop-rest
invariant-loop-rest l = attributes_from l.set l.front.items l.rest ≡ attributes_from [] [] l.octets

abbrev pub decreases-loop-rest : goal.decreases-loop-rest
decreases-loop-rest l = length l.rest
