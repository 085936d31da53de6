use Rattle.register_steps.proofs.Entries.{listed_more}
use Rattle.register_steps.proofs.listed.entries_in.Goals as goal

pub loop-entry-preserved : goal.loop-entry-preserved
loop-entry-preserved c =
    listed_more c.args.entries.now c.loop-entry.entry-index c.entry-item.result c.loop-entry.taken.items c.push_entry.new.taken.items c.in_ok-one.one
    c.loop-entry-test.true c.entry-item.is c.loop-entry.invariant c.in_ok-one.ensures c.in_ok-push_entry.ensures
