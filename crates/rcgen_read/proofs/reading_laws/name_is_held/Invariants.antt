use Rattle.std.specs.Prelude.{◌≡◌, true, take}
use Rattle.std.specs.List.{list_all}
use Rattle.rcgen_text.specs.Names.{entries_of}
use Rattle.rcgen_read.specs.NamesReadBack.{is_held}
use Rattle.rcgen_read.proofs.reading_laws.name_is_held.Given as goal

abbrev pub invariant-loop-entry : goal.invariant-loop-entry
invariant-loop-entry l = list_all is_held (entries_of (take l.entry-index l.entry-items)) ≡ true
