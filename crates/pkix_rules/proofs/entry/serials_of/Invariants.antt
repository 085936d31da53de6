use Rattle.std.proofs.Common.{◌≡◌, ◌++◌, Bor, List, drop, map, ℕ}
use Rattle.pkix_rules.specs.Entries.{serials_of}
use Rattle.pkix_rules.proofs.entry.serials_of.Given as goal

-- what was taken, and what is to come
abbrev pub invariant-loop-entry : goal.invariant-loop-entry
invariant-loop-entry l =
    map (λ (id : Bor (List ℕ)). id.now) l.ids.items ++ serials_of (drop l.entry-index l.entries) ≡ serials_of l.entries
