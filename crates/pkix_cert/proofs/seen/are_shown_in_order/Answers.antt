use Rattle.std.proofs.Common.{ap, is_gt, sym, ◌∙◌}
use Rattle.der_tree.specs.Windows.{shown}
use Rattle.pkix_cert.proofs.Seeing.{set_more}
use Rattle.pkix_cert.proofs.seen.are_shown_in_order.Goals as goal

pub loop-window-preserved : goal.loop-window-preserved
loop-window-preserved g c =
    set_more g.T.Form.codec c.loop-window.missing c.saturating_sub-missing.result c.loop-window.before.now c.whole-octets.result.now
    (shown c.in-Some.window) c.loop-window.left.elements c.in-Some.rest.elements c.loop-window.left.complete c.in-Some.rest.complete
    c.saturating_sub-missing.ensures (c.whole-octets.ensures ∙ c.in-Some.ensures.whole) c.in-Some.ensures.elements
    (ap is_gt (sym c.cmp.ensures) ∙ sym c.if-is_gt.ensures) (sym c.if-not-is_shown.ensures) c.in-Some.ensures.complete
    ∙ c.loop-window.invariant
