use Rattle.std.proofs.Common.{ℕ, List, ◌++◌, ap, ◌∙◌}
use Rattle.register_lines.proofs.Lines.{lines_more}
use Rattle.register_lines.proofs.order.revoked_text.Goals as goal

pub loop-entry-preserved : goal.loop-entry-preserved
loop-entry-preserved c =
    let more = c.in_ok-extend_from_slice.ensures.items ∙ ap (λ (x : List ℕ). c.loop-entry.text.items ++ x) c.as_slice.ensures.value in
    lines_more c.args.entries.now c.loop-entry.entry-index c.entry-item.result c.loop-entry.text.items c.extend_from_slice.new.self.items c.in_ok-line.line.items
    c.loop-entry-test.true c.entry-item.is c.loop-entry.invariant c.in_ok-line.ensures more
