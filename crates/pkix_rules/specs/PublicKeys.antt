-- The rules that a public key by itself breaks (RFC 5280, 4.1.2.7).
use Rattle.std.specs.Prelude.{Bool, List, None, Option, Some, [], not, ℕ, ◌++◌}
use Rattle.der_tree.specs.Form.{value_of}
use Rattle.pkix_cert.specs.Algorithms.{subject_public_key_info}
use Rattle.pkix_cert.specs.declared.algorithm.SubjectPublicKeyInfo.{SubjectPublicKeyInfo}
use Rattle.strict_der.specs.Strict.{is_strict}
use Rattle.pkix_rules.specs.Keys.{key_rules}
use Rattle.rule_table.specs.Found.{when}
use Rattle.rule_table.specs.declared.rule.Rule.{Rule}
use Rattle.rule_table.specs.declared.rule.Rule.TheVariants.{NotStrictDer}

abbrev pub key_found : Bool → Option SubjectPublicKeyInfo → List Rule
key_found strict None = []
key_found strict (Some k) = key_rules k ++ when (not strict) NotStrictDer

-- none where the octets can't be read
unfoldable pub public_key_rules : List ℕ → List Rule
public_key_rules octets = key_found (is_strict octets) (value_of subject_public_key_info octets)
