use Rattle.std.specs.Prelude.{◌≡◌, drop}
use Rattle.rcgen_text.specs.Names.{entries_of}
use Rattle.rcgen_read.specs.NameReading.{read_attributes, read_entries}
use Rattle.rcgen_read.specs.Reading.{read_each}
use Rattle.rcgen_read.proofs.name.entries.Given as goal

-- what is left, read on from here, is what the whole gives
abbrev pub invariant-loop-part : goal.invariant-loop-part
invariant-loop-part l = read_each (λ part. read_attributes part.0) (entries_of l.read.items) (drop l.part-index l.parts) ≡ read_entries l.parts
