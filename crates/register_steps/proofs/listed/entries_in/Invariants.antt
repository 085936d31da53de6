use Rattle.std.proofs.Common.{take}
use Rattle.register_steps.specs.Listed.{AreListed}
use Rattle.register_steps.proofs.listed.entries_in.Given as goal

abbrev pub invariant-loop-entry : goal.invariant-loop-entry
invariant-loop-entry l = AreListed (take l.entry-index l.entries) l.taken.items
