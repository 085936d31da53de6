use Rattle.std.proofs.Common.{◌≡◌, map, take}
use Rattle.path_policies.proofs.mapping.issuer_domain_policies.Given as goal

abbrev pub invariant-loop-mapping : goal.invariant-loop-mapping
invariant-loop-mapping l = l.policies.items ≡ map (λ m. m.issuer_domain_policy) (take l.mapping-index l.mappings)
