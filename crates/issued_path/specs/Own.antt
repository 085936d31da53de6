-- Extensions of an issuer's own beside those of the issue table (RFC 5280, 4.2): whether path validation can read them.
use Rattle.std.specs.Prelude.{Bool, List, cond, false, length, nat_eq, nat_le, nat_lt, not, true, ℕ, ◌&&◌, ◌||◌, map, [], ◌++◌, ◌∷◌}
use Rattle.std.specs.Cmp.Lexicographic.{pointwise}
use Rattle.std.specs.List.{list_all, list_any}
use Rattle.std.specs.Option.{option_map_or}
use Rattle.asn1_core.specs.Bits.{Bits}
use Rattle.asn1_core.specs.Twos.{is_negative}
use Rattle.der_tree.specs.Codec.{Codec}
use Rattle.der_tree.specs.Form.{value_of}
use Rattle.der_tree.specs.PrimitiveTypes.{bit_string, integer, object_identifier, octet_string}
use Rattle.extension_lookup.specs.Lookup.{are_distinct}
use Rattle.path_validation.specs.Extensions.{alternative_names, are_named_once, is_list_of, is_of, left_to_others, mappings, policies, processed}
use Rattle.path_validation.specs.Limits.{is_narrow, is_natural, subtrees_fit}
use Rattle.pkix_cert.specs.Constraints.{basic_constraints, name_constraints}
use Rattle.pkix_cert.specs.Distributions.{distribution_point}
use Rattle.pkix_cert.specs.ExtensionIds as ids
use Rattle.pkix_cert.specs.KeyIdentifiers.{authority_key_identifier}
use Rattle.pkix_cert.specs.declared.constraint.BasicConstraints.{BasicConstraints}
use Rattle.pkix_cert.specs.declared.constraint.NameConstraints.{NameConstraints}
use Rattle.pkix_name.specs.GeneralNames.{general_name}
use Rattle.pkix_name.specs.declared.general_name.GeneralName.{GeneralName}
use Rattle.pkix_trust.specs.Policies.{policy_constraints}
use Rattle.pkix_trust.specs.declared.policy.PolicyConstraints.{PolicyConstraints}
use Rattle.pkix_trust.specs.declared.policy.PolicyInformation.{PolicyInformation}
use Rattle.pkix_trust.specs.declared.policy.PolicyMapping.{PolicyMapping}
use Rattle.rcgen_certificate.specs.CustomExtensions.{Custom}

-- ---- the sizes of what a step reads

-- 4.2.1.9
abbrev pub constraints_fit : BasicConstraints → Bool
constraints_fit b = is_natural b.path_len_constraint

-- 4.2.1.6
abbrev pub other_names_fit : List GeneralName → Bool
other_names_fit names = nat_lt 0 (length names) && list_all is_narrow names

-- 4.2.1.10
abbrev pub name_constraints_fit : NameConstraints → Bool
name_constraints_fit c = subtrees_fit c.permitted_subtrees && subtrees_fit c.excluded_subtrees

-- 256 policies and 256 mappings are the 512 of both that are compared
abbrev pub most_of_each : ℕ
most_of_each = 256

-- 4.2.1.4
abbrev pub named_fit : List PolicyInformation → Bool
named_fit ps = nat_lt 0 (length ps) && nat_le (length ps) most_of_each && are_named_once ps

-- 4.2.1.5
abbrev pub mapped_fit : List PolicyMapping → Bool
mapped_fit ms = nat_lt 0 (length ms) && nat_le (length ms) most_of_each

-- 4.2.1.11
abbrev pub policy_constraints_fit : PolicyConstraints → Bool
policy_constraints_fit c = is_natural c.require_explicit_policy && is_natural c.inhibit_policy_mapping

-- 4.2.1.14
abbrev pub count_fits : List ℕ → Bool
count_fits octets = not (is_negative octets)

abbrev pub any_usage : Bits → Bool
any_usage usage = true

-- ---- an extension by the last arc of its identifier, where that is one under id-ce

-- the contents are exactly one value of the type, which passes the test
unfoldable pub is_one : {A : Type 0} → Codec A → (A → Bool) → List ℕ → Bool
is_one c test contents = option_map_or test (value_of c contents) false

abbrev pub has : (ℕ → Bool) → ℕ → (List ℕ → Bool) → List ℕ → Bool
has is arc test contents = not (is arc) || test contents

-- what a step reads is of its type and size
unfoldable pub can_be_read : (ℕ → Bool) → List ℕ → Bool
can_be_read is contents =
    has is ids.ce_key_usage (is_one bit_string any_usage) contents
    && (has is ids.ce_basic_constraints (is_one basic_constraints constraints_fit) contents
    && (has is ids.ce_subject_alt_name (is_one alternative_names other_names_fit) contents
    && (has is ids.ce_name_constraints (is_one name_constraints name_constraints_fit) contents
    && (has is ids.ce_certificate_policies (is_one policies named_fit) contents
    && (has is ids.ce_policy_mappings (is_one mappings mapped_fit) contents
    && (has is ids.ce_policy_constraints (is_one policy_constraints policy_constraints_fit) contents
    && has is ids.ce_inhibit_any_policy (is_one integer count_fits) contents))))))

-- what no step reads is of its type: 4.2.1.12, 4.2.1.13 and 4.2.1.15, 4.2.1.7, 4.2.1.1, 4.2.1.2
unfoldable pub is_of_its_type : (ℕ → Bool) → List ℕ → Bool
is_of_its_type is contents =
    cond (is ids.ce_ext_key_usage) (is_list_of object_identifier contents)
    (cond (is ids.ce_crl_distribution_points || is ids.ce_freshest_crl) (is_list_of distribution_point contents)
    (cond (is ids.ce_issuer_alt_name) (is_list_of general_name contents)
    (cond (is ids.ce_authority_key_identifier) (is_of authority_key_identifier contents)
    (cond (is ids.ce_subject_key_identifier) (is_of octet_string contents) true))))

-- no step processes it, and it isn't left to others
unfoldable pub is_unknown : (ℕ → Bool) → Bool
is_unknown is = not (list_any is processed) && not (list_any is left_to_others)

-- ---- one's own

-- the arcs are those of the extension under id-ce
abbrev pub arcs_are : List ℕ → ℕ → Bool
arcs_are oid arc = pointwise nat_eq oid (ids.id_ce arc)

-- the step that reads it can read it, and a critical one is of its type
unfoldable pub is_readable : Custom → Bool
is_readable e = can_be_read (arcs_are e.oid) e.content && (not e.critical || is_of_its_type (arcs_are e.oid) e.content)

-- 6.1.4 (o), 6.1.5 (f)
unfoldable pub is_unknown_critical : Custom → Bool
is_unknown_critical e = e.critical && is_unknown (arcs_are e.oid)

-- 4.2.1.11
abbrev pub is_policy_constraints : Custom → Bool
is_policy_constraints e = arcs_are e.oid ids.ce_policy_constraints

-- ---- all of one's own

-- the identifiers of the issue table
abbrev pub table_ids : List (List ℕ)
table_ids =
    ids.id_ce ids.ce_authority_key_identifier ∷ ids.id_ce ids.ce_subject_alt_name ∷ ids.id_ce ids.ce_key_usage ∷ ids.id_ce ids.ce_ext_key_usage
    ∷ ids.id_ce ids.ce_name_constraints ∷ ids.id_ce ids.ce_crl_distribution_points ∷ ids.id_ce ids.ce_subject_key_identifier
    ∷ ids.id_ce ids.ce_basic_constraints ∷ []

-- 4.2: one has the identifier of another, or of the issue table
abbrev pub repeats : List Custom → Bool
repeats es = not (are_distinct (table_ids ++ map (λ e. e.oid) es))

-- as many as are read beside the eight of the issue table
abbrev pub most_own : ℕ
most_own = 248

-- one can't be read, two are one extension, or they are too many
abbrev pub are_unreadable : List Custom → Bool
are_unreadable es = not (list_all is_readable es) || repeats es || nat_lt most_own (length es)
