use Rattle.std.proofs.Common.{◌≡◌, ◌++◌, map}
use Rattle.std.specs.Map.Iter.{deref_pair}
use Rattle.toml_format.proofs.entries.Entries.of.Given as goal

-- what was taken, and what is to come
abbrev pub invariant-loop-entry : goal.invariant-loop-entry
invariant-loop-entry l = map deref_pair l.entries.items ++ l.entry-iterator ≡ l.table.entries
