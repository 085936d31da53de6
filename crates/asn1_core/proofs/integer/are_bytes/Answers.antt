use Rattle.std.proofs.Common.{arith}
use Rattle.asn1_core.proofs.Below.{are_below_each}
use Rattle.asn1_core.proofs.integer.are_bytes.Goals as goal

pub returns-then-not-is_empty : goal.returns-then-not-is_empty
returns-then-not-is_empty c = are_below_each 256 c.args.bytes.now (λ k. omega (arith, c.type_inv.bytes k))
