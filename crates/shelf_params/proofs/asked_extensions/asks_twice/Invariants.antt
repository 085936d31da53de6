use Rattle.std.proofs.Common.{◌≡◌, length}
use Rattle.shelf_params.specs.AskedExtensions.{asks_twice}
use Rattle.shelf_params.proofs.asked_extensions.asks_twice.Given as goal

abbrev pub invariant-loop-rest : goal.invariant-loop-rest
invariant-loop-rest l = asks_twice l.rest ≡ asks_twice l.attributes

abbrev pub decreases-loop-rest : goal.decreases-loop-rest
decreases-loop-rest l = length l.rest
