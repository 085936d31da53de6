use Rattle.rcgen_issue.specs.CrlView.{revoked_view}
use Rattle.rcgen_issue.specs.ListTable.{HasCivilTimes}
use Rattle.rcgen_issue.proofs.Loops.{holds_of_more}
use Rattle.rcgen_issue.proofs.list_table.entries_are_civil.Goals as goal

pub loop-entry-preserved : goal.loop-entry-preserved
loop-entry-preserved c =
    holds_of_more revoked_view HasCivilTimes c.args.entries.now c.loop-entry.entry-index c.entry-item.result c.loop-entry-test.true
    c.entry-item.is c.loop-entry.invariant c.entry_is_civil.ensures
