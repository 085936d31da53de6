use Rattle.std.proofs.Common.{◌≡◌, None, length}
use Rattle.name_parts.specs.Arcs.{arcs_from}
use Rattle.name_parts.proofs.Reading.{behind}
use Rattle.name_parts.proofs.arcs.arcs_of.Given as goal

-- what is read on from here is the whole
abbrev pub invariant-loop-rest : goal.invariant-loop-rest
invariant-loop-rest l = behind l.arcs.items (arcs_from l.number l.rest) ≡ arcs_from None l.text

abbrev pub decreases-loop-rest : goal.decreases-loop-rest
decreases-loop-rest l = length l.rest
