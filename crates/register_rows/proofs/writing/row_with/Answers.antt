use Rattle.std.proofs.Common.{refl}
use Rattle.register_rows.proofs.writing.row_with.Goals as goal

pub returns : goal.returns
returns c = rw (
  c.in_ok-push-9.ensures.ok,
  c.in_ok-push-8.ensures.ok,
  c.in_ok-push-7.ensures.ok,
  c.in_ok-push-6.ensures.ok,
  c.in_ok-push-5.ensures.ok,
  c.in_ok-push-4.ensures.ok,
  c.in_ok-push-3.ensures.ok,
  c.in_ok-push-2.ensures.ok,
  c.in_ok-push.ensures.ok,
  c.new-row.ensures,
  c.rowid.ensures,
) refl
