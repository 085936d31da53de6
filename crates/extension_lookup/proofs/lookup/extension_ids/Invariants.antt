use Rattle.std.proofs.Common.{◌≡◌, ◌++◌, Bor, List, drop, map, ℕ}
use Rattle.extension_lookup.specs.Lookup.{extension_ids}
use Rattle.extension_lookup.proofs.lookup.extension_ids.Given as goal

-- what was taken, and what is to come
abbrev pub invariant-loop-extension : goal.invariant-loop-extension
invariant-loop-extension l =
    map (λ (id : Bor (List ℕ)). id.now) l.ids.items ++ extension_ids (drop l.extension-index l.extensions) ≡ extension_ids l.extensions
