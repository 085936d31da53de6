use Rattle.std.specs.Prelude.{◌≡◌}
use Rattle.std.proofs.Common.{length}
use Rattle.shelf_register.specs.Finding.{has_part}
use Rattle.shelf_register.proofs.finding.has_part.Given as goal

abbrev pub invariant-loop-rest : goal.invariant-loop-rest
invariant-loop-rest l = has_part l.part l.rest ≡ has_part l.part l.octets

abbrev pub decreases-loop-rest : goal.decreases-loop-rest
decreases-loop-rest l = length l.rest
