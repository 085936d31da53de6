use Rattle.std.proofs.Common.{◌≡◌, ◌++◌, Bor, List, map, ℕ}
use Rattle.extension_lookup.specs.Lookup.{ids_of}
use Rattle.extension_lookup.proofs.lookup.ids.Given as goal

-- what was taken, and what is to come
abbrev pub invariant-loop-extension : goal.invariant-loop-extension
invariant-loop-extension l = map (λ (id : Bor (List ℕ)). id.now) l.ids.items ++ ids_of l.extension-iterator ≡ ids_of l.view.extensions
