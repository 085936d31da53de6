-- What a certificate states, where it does.
use Rattle.std.specs.Prelude.{List, Option, ℕ}
use Rattle.asn1_core.specs.Binds.{◌>>=◌}
use Rattle.pkix_cert.specs.declared.constraint.BasicConstraints.{BasicConstraints}
use Rattle.pkix_cert.specs.declared.constraint.GeneralSubtree.{GeneralSubtree}
use Rattle.pkix_cert.specs.declared.constraint.NameConstraints.{NameConstraints}
use Rattle.pkix_trust.specs.declared.policy.PolicyConstraints.{PolicyConstraints}

-- 4.2.1.9
abbrev pub path_len_constraint : Option BasicConstraints → Option (List ℕ)
path_len_constraint said = said >>= λ b. b.path_len_constraint

-- 4.2.1.10
abbrev pub permitted_of : Option NameConstraints → Option (List GeneralSubtree)
permitted_of said = said >>= λ n. n.permitted_subtrees

abbrev pub excluded_of : Option NameConstraints → Option (List GeneralSubtree)
excluded_of said = said >>= λ n. n.excluded_subtrees

-- 4.2.1.11
abbrev pub require_explicit_policy : Option PolicyConstraints → Option (List ℕ)
require_explicit_policy said = said >>= λ p. p.require_explicit_policy

abbrev pub inhibit_policy_mapping : Option PolicyConstraints → Option (List ℕ)
inhibit_policy_mapping said = said >>= λ p. p.inhibit_policy_mapping
