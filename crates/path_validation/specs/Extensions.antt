-- What the extensions of a certificate say of paths (RFC 5280, 4.2), as its octets contain them.
use Rattle.std.specs.Prelude.{Bool, List, None, Option, Some, cond, false, is_some, length, map, nat_lt, not, refl, true, ℕ, ◌&&◌, ◌||◌, [], ◌∷◌}
use Rattle.std.specs.List.{list_all, list_any}
use Rattle.std.specs.Str.{bytes_eq}
use Rattle.asn1_core.specs.Binds.{◌>>=◌}
use Rattle.der_tree.specs.Codec.{Codec}
use Rattle.der_tree.specs.Grammar.{sequence_of}
use Rattle.der_tree.specs.Form.{value_of}
use Rattle.der_tree.specs.PrimitiveTypes.{bit_string, integer, object_identifier, octet_string}
use Rattle.pkix_cert.specs.Constraints.{basic_constraints, name_constraints}
use Rattle.pkix_cert.specs.Distributions.{distribution_point}
use Rattle.pkix_cert.specs.ExtensionIds as ids
use Rattle.pkix_cert.specs.KeyIdentifiers.{authority_key_identifier}
use Rattle.pkix_cert.specs.Views.{ExtensionParts}
use Rattle.pkix_cert.specs.declared.constraint.NameConstraints.{NameConstraints}
use Rattle.pkix_name.specs.GeneralNames.{general_name}
use Rattle.pkix_name.specs.declared.general_name.GeneralName.{GeneralName}
use Rattle.pkix_trust.specs.Policies.{policy_constraints, policy_information, policy_mapping}
use Rattle.pkix_trust.specs.declared.policy.PolicyInformation.{PolicyInformation}
use Rattle.pkix_trust.specs.declared.policy.PolicyMapping.{PolicyMapping}
use Rattle.extension_lookup.specs.Lookup.{are_distinct, contents_at, ids_of, read_optional}
use Rattle.path_validation.specs.Limits.{most_extensions, statements_fit}
use Rattle.path_validation.specs.declared.statements.CaStatements.{CaStatements}
use Rattle.path_validation.specs.declared.statements.NameStatements.{NameStatements}
use Rattle.path_validation.specs.declared.statements.PolicyStatements.{PolicyStatements}
use Rattle.path_validation.specs.declared.statements.Statements.{Statements}

-- ---- what the steps read: none where the contents aren't exactly one value

abbrev pub alternative_names : Codec (List GeneralName)
alternative_names = sequence_of general_name 0 None refl

abbrev pub policies : Codec (List PolicyInformation)
policies = sequence_of policy_information 0 None refl

abbrev pub mappings : Codec (List PolicyMapping)
mappings = sequence_of policy_mapping 0 None refl

-- the contents of the extension with that last arc, where there is one
abbrev pub said_by : ℕ → List ExtensionParts → Option (List ℕ)
said_by arc es = contents_at (ids.id_ce_der arc) es

-- 4.2.1.3, 4.2.1.9
unfoldable pub read_ca : List ExtensionParts → Option CaStatements
read_ca es = do
  usage ← read_optional bit_string (said_by ids.ce_key_usage es)
  constraints ← read_optional basic_constraints (said_by ids.ce_basic_constraints es)
  Some (record { key_usage = usage; basic_constraints = constraints })

-- 4.2.1.6
unfoldable pub read_alternative_names : List ExtensionParts → Option (Option (List GeneralName))
read_alternative_names es = read_optional alternative_names (said_by ids.ce_subject_alt_name es)

-- 4.2.1.10
unfoldable pub read_constraints : List ExtensionParts → Option (Option NameConstraints)
read_constraints es = read_optional name_constraints (said_by ids.ce_name_constraints es)

unfoldable pub read_names : List ExtensionParts → Option NameStatements
read_names es = do
  names ← read_alternative_names es
  constraints ← read_constraints es
  Some (record { subject_alt_names = names; name_constraints = constraints })

-- 4.2.1.4: a policy doesn't occur there more than once
abbrev pub are_named_once : List PolicyInformation → Bool
are_named_once ps = are_distinct (map (λ p. p.policy_identifier) ps)

abbrev pub unless_named_twice : Option (List PolicyInformation) → Option (Option (List PolicyInformation))
unless_named_twice None = Some None
unless_named_twice (Some ps) = cond (are_named_once ps) (Some (Some ps)) None

unfoldable pub read_certificate_policies : List ExtensionParts → Option (Option (List PolicyInformation))
read_certificate_policies es = read_optional policies (said_by ids.ce_certificate_policies es)

unfoldable pub read_named : List ExtensionParts → Option (Option (List PolicyInformation))
read_named es = read_certificate_policies es >>= unless_named_twice

unfoldable pub read_mappings : List ExtensionParts → Option (Option (List PolicyMapping))
read_mappings es = read_optional mappings (said_by ids.ce_policy_mappings es)

-- 4.2.1.4, 4.2.1.5, 4.2.1.11, 4.2.1.14
unfoldable pub read_policies : List ExtensionParts → Option PolicyStatements
read_policies es = do
  named ← read_named es
  mapped ← read_mappings es
  constraints ← read_optional policy_constraints (said_by ids.ce_policy_constraints es)
  inhibit ← read_optional integer (said_by ids.ce_inhibit_any_policy es)
  Some (record { policies = named; mappings = mapped; constraints = constraints; inhibit_any_policy = inhibit })

unfoldable pub read_each : List ExtensionParts → Option Statements
read_each es = do
  ca ← read_ca es
  names ← read_names es
  policies ← read_policies es
  Some (record { ca = ca; names = names; policies = policies })

-- each has its size, and no more is stated than is compared
unfoldable pub read_within : List ExtensionParts → Option Statements
read_within es = read_each es >>= λ said. cond (statements_fit said) (Some said) None

-- ---- extensions that no step reads, where they are critical

-- the contents are of this type
abbrev pub is_of : {A : Type 0} → Codec A → List ℕ → Bool
is_of c contents = is_some (value_of c contents)

abbrev pub is_some_list : {A : Type 0} → Option (List A) → Bool
is_some_list None = false
is_some_list (Some xs) = nat_lt 0 (length xs)

-- they are a SEQUENCE SIZE (1..MAX) OF this type
unfoldable pub is_list_of : {A : Type 0} → Codec A → List ℕ → Bool
is_list_of c contents = is_some_list (value_of (sequence_of c 0 None refl) contents)

-- each has its type: 4.2.1.12, 4.2.1.13 and 4.2.1.15, 4.2.1.7, 4.2.1.1, 4.2.1.2
unfoldable pub is_of_its_type : List ℕ → List ℕ → Bool
is_of_its_type id contents =
    cond (bytes_eq id (ids.id_ce_der ids.ce_ext_key_usage)) (is_list_of object_identifier contents)
    (cond (bytes_eq id (ids.id_ce_der ids.ce_crl_distribution_points) || bytes_eq id (ids.id_ce_der ids.ce_freshest_crl)) (is_list_of distribution_point contents)
    (cond (bytes_eq id (ids.id_ce_der ids.ce_issuer_alt_name)) (is_list_of general_name contents)
    (cond (bytes_eq id (ids.id_ce_der ids.ce_authority_key_identifier)) (is_of authority_key_identifier contents)
    (cond (bytes_eq id (ids.id_ce_der ids.ce_subject_key_identifier)) (is_of octet_string contents) true))))

-- 4.2: one that is critical is rejected where it "contains information that it cannot process"
abbrev pub can_be_processed : ExtensionParts → Bool
can_be_processed e = not e.critical || is_of_its_type e.id e.contents

-- 4.2: no two have one identifier
unfoldable pub are_readable : List ExtensionParts → Bool
are_readable es = not (nat_lt most_extensions (length es)) && are_distinct (ids_of es) && list_all can_be_processed es

unfoldable pub read_statements : List ExtensionParts → Option Statements
read_statements es = cond (are_readable es) (read_within es) None

-- ---- critical extensions

-- those that a step processes
abbrev pub processed : List ℕ
processed =
    ids.ce_key_usage ∷ ids.ce_subject_alt_name ∷ ids.ce_basic_constraints ∷ ids.ce_name_constraints ∷ ids.ce_certificate_policies ∷ ids.ce_policy_mappings
    ∷ ids.ce_policy_constraints ∷ ids.ce_inhibit_any_policy ∷ []

-- those that bind only who uses the key (extended key usage), who looks for revocation lists (points) or for certificates (key identifiers, the issuer's other names);
-- where they are critical they are of their type
abbrev pub left_to_others : List ℕ
left_to_others =
    ids.ce_ext_key_usage ∷ ids.ce_crl_distribution_points ∷ ids.ce_freshest_crl ∷ ids.ce_authority_key_identifier ∷ ids.ce_subject_key_identifier
    ∷ ids.ce_issuer_alt_name ∷ []

unfoldable pub is_one_of : List ℕ → List ℕ → Bool
is_one_of arcs id = list_any (λ arc. bytes_eq id (ids.id_ce_der arc)) arcs

abbrev pub is_unprocessed_critical : ExtensionParts → Bool
is_unprocessed_critical e = e.critical && not (is_one_of processed e.id) && not (is_one_of left_to_others e.id)
