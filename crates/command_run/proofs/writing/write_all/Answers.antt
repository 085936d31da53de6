use Rattle.std.proofs.Common.{arith, length-drop}
use Rattle.std.proofs.lemmas.List.{take_rest}
use Rattle.command_run.proofs.Pieces.{Appends-next, AppendsFront-next}
use Rattle.command_run.proofs.writing.write_all.Goals as goal

pub returns-in_err-done-clause-front : goal.returns-in_err-done-clause-front
returns-in_err-done-clause-front g c =
    let front = rw take_rest at c.in_err-done.ensures.content in
    AppendsFront-next _ _ _ c.loop-done.done _ c.loop-done.invariant.written front

pub loop-done-preserved : goal.loop-done-preserved
loop-done-preserved g c =
    let next = rw take_rest at c.in_ok-done.ensures.content in
    let bound = rw take_rest at c.in_ok-done.ensures.bound in
    record {
      written = Appends-next _ _ _ c.loop-done.done c.in_ok-done.field-0 _ c.loop-done.invariant.written next;
      count = omega (arith, c.loop-done.invariant.count, c.in_ok-done.ensures.count);
      within = omega (arith, bound, length-drop c.loop-done.done c.args.text.now);
    }
