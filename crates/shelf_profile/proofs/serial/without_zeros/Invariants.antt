use Rattle.std.proofs.Common.{◌≡◌, length}
use Rattle.asn1_core.specs.Twos.{without_zeros}
use Rattle.shelf_profile.proofs.serial.without_zeros.Given as goal

abbrev pub invariant-loop-rest : goal.invariant-loop-rest
invariant-loop-rest l = without_zeros l.rest ≡ without_zeros l.octets

abbrev pub decreases-loop-rest : goal.decreases-loop-rest
decreases-loop-rest l = length l.rest
