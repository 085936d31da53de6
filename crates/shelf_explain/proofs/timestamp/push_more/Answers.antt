use Rattle.std.proofs.Common.{◌++◌, ◌+◌, List, ℕ, drop, ap, sym, ◌∙◌, arith}
use Rattle.std.proofs.lemmas.List.{drop_all, drop_more}
use Rattle.std.proofs.Math.ListN.{get_or}
use Rattle.shelf_explain.proofs.TimestampSteps.{at_end, at_rest, one_more}
use Rattle.shelf_explain.proofs.timestamp.push_more.Goals as goal

pub returns-in_default : goal.returns-in_default
returns-in_default c =
    at_rest c.loop-step.lines.items c.push_rest.new.lines.items _ (drop c.loop-step._step-index c.args.octets.now)
    (drop (c.loop-step._step-index + 1) c.args.octets.now) c.loop-step.left.now (get_or c.args.octets.now c.loop-step._step-index 0)
    (drop_more c.args.octets.now c.loop-step._step-index 0 c.loop-step-test.true) (sym c.in_default.ensures) c.in_ok-push_rest.ensures c.loop-step.invariant

pub loop-step-preserved : goal.loop-step-preserved
loop-step-preserved c =
    one_more c.loop-step.lines.items c.extend_from_slice.new.self.items c.push_timestamp.new.lines.items _
    (drop c.loop-step._step-index c.args.octets.now) (drop (c.loop-step._step-index + 1) c.args.octets.now) c.loop-step.left.now c.in-Some.next.now
    c.in-Some.rest.now (get_or c.args.octets.now c.loop-step._step-index 0) (drop_more c.args.octets.now c.loop-step._step-index 0 c.loop-step-test.true)
    (sym c.in-Some.ensures) (c.in_ok-extend_from_slice.ensures.items ∙ ap (λ (t : List ℕ). c.loop-step.lines.items ++ t) c.next_line.ensures)
    c.in_ok-push_timestamp.ensures c.loop-step.invariant

pub returns : goal.returns
returns c =
    at_end c.loop-step.lines.items _ (drop c.loop-step._step-index c.args.octets.now) c.loop-step.left.now
    (drop_all c.loop-step._step-index c.args.octets.now (omega (arith, c.loop-step-test.false))) c.loop-step.invariant
