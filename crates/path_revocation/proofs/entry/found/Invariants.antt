use Rattle.std.proofs.Common.{◌≡◌, drop}
use Rattle.path_revocation.specs.Entries.{found}
use Rattle.path_revocation.proofs.entry.found.Given as goal

-- from here on the search comes to what it comes to as a whole
abbrev pub invariant-loop-entry : goal.invariant-loop-entry
invariant-loop-entry l = found l.issuer l.serial_number l.of_issuer (drop l.entry-index l.entries) ≡ found l.issuer l.serial_number l.first l.entries
