use Rattle.std.proofs.Common.{◌≡◌, drop}
use Rattle.std.specs.List.{list_all}
use Rattle.path_revocation.specs.Entries.{is_readable_entry}
use Rattle.path_revocation.proofs.entry.are_readable_entries.Given as goal

abbrev pub invariant-loop-entry : goal.invariant-loop-entry
invariant-loop-entry l = list_all is_readable_entry (drop l.entry-index l.entries) ≡ list_all is_readable_entry l.entries
