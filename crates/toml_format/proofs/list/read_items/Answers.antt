use Rattle.std.proofs.Common.{arith}
use Rattle.toml_format.proofs.Items.{items_whole}
use Rattle.toml_format.proofs.list.read_items.Goals as goal

pub returns : goal.returns
returns g c =
    let at = c.loop-value in
    items_whole g.T.FromValue.format.read at.list _ c.args.values.now at.value-index (omega (arith, c.loop-value-test.false)) at.invariant
