use Rattle.std.proofs.Common.{rules, ◌≡◌, false}
use Rattle.register_rows.proofs.Back.{other_row}
use Rattle.register_rows.proofs.reading.read_event.Goals as goal

pub returns-then-not-branch-clause-no_event : goal.returns-then-not-branch-clause-no_event
returns-then-not-branch-clause-no_event c _ e kept =
    let differs : c.in_ok-is_row_of.field-0 ≡ false = search rules in
    other_row c.args.before c.args.row.now e c.in_ok-event.event c.in_ok-event.ensures.ok (c.in_ok-is_row_of.ensures.no differs) kept
