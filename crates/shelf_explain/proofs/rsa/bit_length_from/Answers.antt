use Rattle.std.proofs.Common.{◌*◌, ◌^◌, ◌<◌, ◌≤◌}
use Rattle.shelf_explain.proofs.BitLengths.{at_least, below, bits_are}
use Rattle.shelf_explain.proofs.rsa.bit_length_from.Goals as goal

pub returns-clause-digits : goal.returns-clause-digits
returns-clause-digits c =
    let low : 2 ^ c.from.result ≤ c.args.first = rw c.from.ensures c.ilog2.ensures.power_le in
    let high : c.args.first < 2 * 2 ^ c.from.result = rw c.from.ensures c.ilog2.ensures.next_power_gt in
    bits_are _ _ (at_least c.args.first c.from.result c.args.rest.now low) (below c.args.first c.from.result c.args.rest.now high (λ k. (c.type_inv.rest k).fits))

pub returns-clause-most : goal.returns-clause-most
returns-clause-most c = below c.args.first c.from.result c.args.rest.now (rw c.from.ensures c.ilog2.ensures.next_power_gt) (λ k. (c.type_inv.rest k).fits)

pub returns-clause-least : goal.returns-clause-least
returns-clause-least c = at_least c.args.first c.from.result c.args.rest.now (rw c.from.ensures c.ilog2.ensures.power_le)
