use Rattle.std.proofs.Common.{◌≡◌, true, arith, ◌^◌}
use Rattle.std.proofs.lemmas.Grind.{common_steps}
use Rattle.asn1_core.specs.Arcs.{are_below}
use Rattle.asn1_core.proofs.Below.{are_below_each}
use Rattle.asn1_core.proofs.oid.Oid.new.Goals as goal

pub invariant_of-result : goal.invariant_of-result
invariant_of-result c = let below : are_below (2 ^ 32) c.args.arcs.now ≡ true = are_below_each (2 ^ 32) c.args.arcs.now (λ k. omega (arith, c.type_inv.arcs k)) in grind (arith, common_steps)
