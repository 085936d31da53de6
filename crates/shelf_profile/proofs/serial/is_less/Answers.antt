use Rattle.std.proofs.Common.{◌∙◌}
use Rattle.shelf_profile.proofs.Numbers.{less}
use Rattle.shelf_profile.proofs.serial.is_less.Goals as goal

pub returns : goal.returns
returns c =
    let lengths = c.cmp.ensures in
    let octets = c.cmp-2.ensures in
    let then = c.then.ensures in
    c.is_lt.ensures
    ∙ less c.args.a.now c.args.b.now c.without_zeros-a.result.now c.without_zeros-b.result.now c.then.result c.without_zeros-a.ensures c.without_zeros-b.ensures
    c.are_octets.ensures c.are_octets-2.ensures cc
