use Rattle.std.proofs.Common.{◌≡◌, drop, find}
use Rattle.shelf_register.specs.Naming.{has_octets}
use Rattle.shelf_register.proofs.named.with_octets.Given as goal

-- none of those before has them
abbrev pub invariant-loop-certificate : goal.invariant-loop-certificate
invariant-loop-certificate l = find (has_octets l.octets) l.certificates ≡ find (has_octets l.octets) (drop l.certificate-index l.certificates)
