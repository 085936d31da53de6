use Rattle.std.proofs.Common.{take}
use Rattle.register_lines.specs.Lines.{AreLines}
use Rattle.register_lines.proofs.order.revoked_text.Given as goal

abbrev pub invariant-loop-entry : goal.invariant-loop-entry
invariant-loop-entry l = AreLines (take l.entry-index l.entries) l.text.items
