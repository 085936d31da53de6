use Rattle.std.proofs.Common.{◌∙◌, ◌+◌, length, ap, refl, arith}
use Rattle.std.specs.Str.Iter.{lines_rest}
use Rattle.std.specs.Str.Lines.{lines}
use Rattle.std.proofs.lemmas.Iterator.Splits.{YieldsList-from_lines}
use Rattle.revoked_lines.specs.Lines.{with_lines}
use Rattle.revoked_lines.proofs.Lines.{at_end, goes_on, has_room, line_count, passed_on, stops}
use Rattle.revoked_lines.proofs.text.with_lines.Goals as goal

pub loop-line-init : goal.loop-line-init
loop-line-init c = (
  lines c.args.text.now,
  record {
    yields =
        YieldsList-from_lines c.args.text.now (ap lines_rest c.into_iter-line-iterator.ensures.into_iter_gives ∙ c.lines-line-items.ensures.rest);
    reads = refl;
    fits = omega (arith, line_count c.args.text.now);
  },
)

pub overflow_add-number : goal.overflow_add-number
overflow_add-number c =
    omega (
      arith,
      has_room c.args.is_delta c.loop-line.line-iterator c.next.new.self c.in-Some.line c.loop-line.number (length c.args.text.now + 1) c.loop-line.found.items
          (with_lines c.args.is_delta 0 c.args.found.items (lines c.args.text.now)) c.in-Some.ensures.steps c.loop-line.invariant,
    )

pub loop-line-preserved : goal.loop-line-preserved
loop-line-preserved c =
    goes_on c.args.is_delta c.loop-line.line-iterator c.next.new.self c.in-Some.line c.loop-line.number (c.loop-line.number + 1) (length c.args.text.now + 1)
    c.loop-line.found.items c.push_optional.new.found.items c.in_ok-line_entry.field-0 (with_lines c.args.is_delta 0 c.args.found.items (lines c.args.text.now))
    c.in-Some.ensures.steps (omega arith) c.in_ok-line_entry.ensures c.in_ok-push_optional.ensures c.loop-line.invariant

pub returns-in_err-line_entry : goal.returns-in_err-line_entry
returns-in_err-line_entry c =
    let fault = c.in_err-line_entry.field-0.0 in
    let whole = with_lines c.args.is_delta 0 c.args.found.items (lines c.args.text.now) in
    passed_on whole c.from_residual.result fault c.from_residual.ensures.1
    (λ never. stops c.args.is_delta c.loop-line.line-iterator c.next.new.self c.in-Some.line c.loop-line.number (c.loop-line.number + 1) (length c.args.text.now + 1)
    c.loop-line.found.items fault whole c.in-Some.ensures.steps (omega arith) (c.in_err-line_entry.ensures never) c.loop-line.invariant)

pub returns : goal.returns
returns c =
    at_end c.args.is_delta c.loop-line.line-iterator c.next.new.self c.loop-line.number (length c.args.text.now + 1) c.loop-line.found.items
    (with_lines c.args.is_delta 0 c.args.found.items (lines c.args.text.now)) c.in-None.ensures.steps c.loop-line.invariant
