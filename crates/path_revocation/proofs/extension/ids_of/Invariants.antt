use Rattle.std.proofs.Common.{◌≡◌, Bor, List, map, take, ℕ}
use Rattle.path_revocation.proofs.extension.ids_of.Given as goal

abbrev pub invariant-loop-extension : goal.invariant-loop-extension
invariant-loop-extension l = map (λ (arcs : Bor (List ℕ)). arcs.now) l.ids.items ≡ map (λ e. e.extn_id) (take l.extension-index l.extensions)
