use Rattle.std.proofs.Common.{◌≡◌, take}
use Rattle.rsa.specs.Primitives.{os2ip}
use Rattle.rsa.proofs.key.small_number.Given as goal

abbrev pub invariant-loop-octet : goal.invariant-loop-octet
invariant-loop-octet l = l.number ≡ os2ip (take l.octet-index l.octets)
