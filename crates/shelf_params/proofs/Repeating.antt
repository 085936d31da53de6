-- Two policies with one identifier.
use Rattle.std.proofs.Common.{List, map, not, refl, ◌≡◌, ◌∷◌}
use Rattle.extension_lookup.proofs.Distinct.{repeats_by}
use Rattle.extension_lookup.specs.Lookup.{are_distinct}
use Rattle.pkix_trust.specs.declared.policy.PolicyInformation.{PolicyInformation}
use Rattle.shelf_params.specs.Parameters.{repeats_policy}

pub repeats_is : (ps : List PolicyInformation) → repeats_policy ps ≡ not (are_distinct (map (λ p. p.policy_identifier) ps))
repeats_is ps = repeats_by (λ (p : PolicyInformation). p.policy_identifier) repeats_policy refl (λ p ps. refl) ps
