use Rattle.std.proofs.Common.{◌≡◌, drop}
use Rattle.std.specs.List.{list_any}
use Rattle.pkix_rules.specs.Entries.{entry_fails}
use Rattle.pkix_rules.proofs.entry.any_fails.Given as goal

abbrev pub invariant-loop-entry : goal.invariant-loop-entry
invariant-loop-entry l = list_any (entry_fails l.fault) (drop l.entry-index l.entries) ≡ list_any (entry_fails l.fault) l.entries
