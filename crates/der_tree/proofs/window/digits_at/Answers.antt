use Rattle.std.proofs.Common.{sym, ◌∙◌, ◌^◌}
use Rattle.std.proofs.lemmas.Bool.{le-ltb}
use Rattle.der_tree.proofs.FrontLaws.{digits_over, stops_over}
use Rattle.der_tree.proofs.window.digits_at.Goals as goal

pub returns : goal.returns
returns c =
    let over = le-ltb c.loop-high.high (2 ^ 25) c.loop-high-test.false in
    (sym c.loop-high.invariant.0 ∙ digits_over (2 ^ 25) c.loop-high.high c.loop-high.rest.now over, sym c.loop-high.invariant.1 ∙ stops_over (2 ^ 25) c.loop-high.high c.loop-high.rest.now over)
