use Rattle.std.proofs.Common.{arith}
use Rattle.asn1_core.proofs.Below.{are_below_each}
use Rattle.shelf_profile.proofs.serial.are_octets.Goals as goal

pub returns-then-not-is_empty : goal.returns-then-not-is_empty
returns-then-not-is_empty c = are_below_each 256 c.args.octets.now (λ k. omega (arith, c.type_inv.octets k))
