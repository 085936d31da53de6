use Rattle.std.proofs.Common.{◌≡◌, ◌++◌, Bor, List, drop, map, ℕ}
use Rattle.pkix_rules.proofs.usage.purpose_ids.Given as goal

-- what was taken, and what is to come
abbrev pub invariant-loop-purpose : goal.invariant-loop-purpose
invariant-loop-purpose l = map (λ (id : Bor (List ℕ)). id.now) l.ids.items ++ drop l.purpose-index l.purposes ≡ l.purposes
