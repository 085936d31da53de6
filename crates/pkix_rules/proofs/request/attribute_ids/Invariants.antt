use Rattle.std.proofs.Common.{◌≡◌, ◌++◌, Bor, List, drop, map, ℕ}
use Rattle.pkix_rules.specs.Requests.{attribute_ids}
use Rattle.pkix_rules.proofs.request.attribute_ids.Given as goal

-- what was taken, and what is to come
abbrev pub invariant-loop-attribute : goal.invariant-loop-attribute
invariant-loop-attribute l =
    map (λ (id : Bor (List ℕ)). id.now) l.ids.items ++ attribute_ids (drop l.attribute-index l.attributes) ≡ attribute_ids l.attributes
