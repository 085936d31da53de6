use Rattle.std.proofs.Common.{◌≡◌, filter, map, take}
use Rattle.path_policies.specs.Policies.{same_policy}
use Rattle.path_policies.proofs.mapping.equivalents.Given as goal

abbrev pub invariant-loop-mapping : goal.invariant-loop-mapping
invariant-loop-mapping l = l.policies.items ≡ map (λ m. m.subject_domain_policy) (filter (λ m. same_policy m.issuer_domain_policy l.policy) (take l.mapping-index l.mappings))
