use Rattle.std.proofs.Common.{◌≡◌, ◌+◌, ◌++◌, drop}
use Rattle.crl_index.specs.Search as spec
use Rattle.crl_index.proofs.serials.numbered.Given as goal

abbrev pub invariant-loop-entry : goal.invariant-loop-entry
invariant-loop-entry l = record {
  pairs : l.pairs.items ++ spec.numbered (l.place + 1) (drop l.entry-index l.entries) ≡ spec.numbered 1 l.entries;
  place : l.place ≡ l.entry-index;
}
