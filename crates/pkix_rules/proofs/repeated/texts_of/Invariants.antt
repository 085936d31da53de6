use Rattle.std.proofs.Common.{◌≡◌, ◌++◌, Bor, List, drop, map, ℕ}
use Rattle.pkix_rules.specs.Repeated.{texts_of}
use Rattle.pkix_rules.proofs.repeated.texts_of.Given as goal

-- what was taken, and what is to come
abbrev pub invariant-loop-name : goal.invariant-loop-name
invariant-loop-name l =
    map (λ (t : Bor (List ℕ)). t.now) l.texts.items ++ texts_of l.form (drop l.name-index l.names) ≡ texts_of l.form l.names
