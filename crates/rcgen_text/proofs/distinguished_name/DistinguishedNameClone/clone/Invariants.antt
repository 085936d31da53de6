use Rattle.std.specs.Prelude.{◌≡◌, take}
use Rattle.rcgen_text.specs.Names.{entries_of}
use Rattle.rcgen_text.proofs.distinguished_name.DistinguishedNameClone.clone.Given as goal

-- the copies so far are of the first attributes
abbrev pub invariant-loop-entry : goal.invariant-loop-entry
invariant-loop-entry l = (entries_of l.entries.items ≡ entries_of (take l.entry-index l.entry-items))
