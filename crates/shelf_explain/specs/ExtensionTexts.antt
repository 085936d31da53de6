-- Extensions by name, with their values spelled out (RFC 5280, 4.2, 5.2, 5.3).
use Rattle.std.specs.Prelude.{ℕ, Bool, true, false, cond, List, [], ◌∷◌, ◌++◌, codes, flat_map, nat_eq, Option, Some, None, refl}
use Rattle.std.specs.Cmp.Lexicographic.{pointwise}
use Rattle.der_tree.specs.Codec.{Codec}
use Rattle.der_tree.specs.Form.{value_of}
use Rattle.der_tree.specs.Grammar.{sequence_of}
use Rattle.der_tree.specs.PrimitiveTypes.{bit_string, generalized_time, integer, object_identifier, octet_string}
use Rattle.pkix_cert.specs.Constraints.{basic_constraints, name_constraints}
use Rattle.pkix_cert.specs.Distributions.{distribution_point, issuing_distribution_point}
use Rattle.pkix_cert.specs.ExtensionIds.{id_ce, ce_authority_key_identifier, ce_basic_constraints, ce_certificate_issuer, ce_certificate_policies, ce_crl_distribution_points, ce_crl_number, ce_crl_reason}
use Rattle.pkix_cert.specs.ExtensionIds.{ce_delta_crl_indicator, ce_ext_key_usage, ce_freshest_crl, ce_inhibit_any_policy, ce_invalidity_date, ce_issuer_alt_name, ce_issuing_distribution_point}
use Rattle.pkix_cert.specs.ExtensionIds.{ce_key_usage, ce_name_constraints, ce_policy_constraints, ce_policy_mappings, ce_subject_alt_name, ce_subject_key_identifier}
use Rattle.pkix_cert.specs.KeyIdentifiers.{authority_key_identifier}
use Rattle.pkix_cert.specs.Revocations.{crl_reason}
use Rattle.pkix_cert.specs.declared.extension.Extension.{Extension}
use Rattle.pkix_cert.specs.declared.extension.Extensions.{Extensions}
use Rattle.pkix_name.specs.GeneralNames.{general_name}
use Rattle.pkix_trust.specs.Accesses.{access_description}
use Rattle.pkix_trust.specs.Policies.{policy_constraints, policy_information, policy_mapping}
use Rattle.shelf_explain.specs.BitNames.{key_usage_names, names_text}
use Rattle.shelf_explain.specs.ConstraintTexts.{basic_constraints_text, name_constraints_text}
use Rattle.shelf_explain.specs.Elements.{element_at, feature_at}
use Rattle.shelf_explain.specs.GeneralNames.{each_text, general_name_text}
use Rattle.shelf_explain.specs.Known.{extension_name_text, identifier_text}
use Rattle.shelf_explain.specs.Lines.{hex_text, labelled, line, next_line}
use Rattle.shelf_explain.specs.Names.{attribute_value_text}
use Rattle.shelf_explain.specs.Numbers.{integer_text}
use Rattle.shelf_explain.specs.PartTexts.{read_at, read_or_parts, spread, unreadable_at}
use Rattle.shelf_explain.specs.Parts.{in_front}
use Rattle.shelf_explain.specs.Points.{authority_key_text, crl_reason_text, issuing_point_text, point_text}
use Rattle.shelf_explain.specs.PolicyTexts.{access_text, policy_constraints_text, policy_mapping_text, policy_text}
use Rattle.shelf_explain.specs.Times.{moment_text}
use Rattle.shelf_explain.specs.Timestamps.{timestamp_list_text}
use Rattle.shelf_explain.specs.declared.extension.Contents.{Contents}
use Rattle.shelf_explain.specs.declared.extension.Contents.TheVariants as contents

-- ---- what each extension contains

abbrev pub is_arcs : List ℕ → List ℕ → Bool
is_arcs arcs others = pointwise nat_eq arcs others

-- id-pe (RFC 5280, 4.2.2)
abbrev pub id_pe : ℕ → List ℕ
id_pe n = 1 ∷ 3 ∷ 6 ∷ 1 ∷ 5 ∷ 5 ∷ 7 ∷ 1 ∷ n ∷ []

-- Microsoft's
abbrev pub microsoft : List ℕ → List ℕ
microsoft arcs = 1 ∷ 3 ∷ 6 ∷ 1 ∷ 4 ∷ 1 ∷ 311 ∷ arcs

-- what other documents have: RFC 7633, RFC 6960 (4.2.2.2.1), RFC 6962 (3.1, 3.3), and companies
unfoldable pub kind_of_others : List ℕ → Contents
kind_of_others arcs =
    cond (is_arcs arcs (id_pe 24)) contents.Features
    (cond (is_arcs arcs (1 ∷ 3 ∷ 6 ∷ 1 ∷ 5 ∷ 5 ∷ 7 ∷ 48 ∷ 1 ∷ 5 ∷ [])) contents.Flag
    (cond (is_arcs arcs (1 ∷ 3 ∷ 6 ∷ 1 ∷ 4 ∷ 1 ∷ 11129 ∷ 2 ∷ 4 ∷ 3 ∷ [])) contents.Flag
    (cond (is_arcs arcs (1 ∷ 3 ∷ 6 ∷ 1 ∷ 4 ∷ 1 ∷ 11129 ∷ 2 ∷ 4 ∷ 2 ∷ [])) contents.Timestamps
    (cond (is_arcs arcs (microsoft (20 ∷ 2 ∷ []))) contents.Text
    (cond (is_arcs arcs (2 ∷ 16 ∷ 840 ∷ 1 ∷ 113730 ∷ 1 ∷ 13 ∷ [])) contents.Text
    (cond (is_arcs arcs (microsoft (21 ∷ 1 ∷ []))) contents.Number
    (cond (is_arcs arcs (microsoft (21 ∷ 2 ∷ []))) contents.KeyId
    (cond (is_arcs arcs (microsoft (21 ∷ 7 ∷ []))) contents.Elements
    (cond (is_arcs arcs (microsoft (21 ∷ 10 ∷ []))) contents.Policies contents.Unknown)))))))))

-- policies, constraints, and the extensions of lists
unfoldable pub kind_of_rarer : List ℕ → Contents
kind_of_rarer arcs =
    cond (is_arcs arcs (id_ce ce_certificate_policies)) contents.Policies
    (cond (is_arcs arcs (id_ce ce_policy_mappings)) contents.PolicyMappings
    (cond (is_arcs arcs (id_ce ce_policy_constraints)) contents.PolicyConstraints
    (cond (is_arcs arcs (id_ce ce_name_constraints)) contents.NameConstraints
    (cond (is_arcs arcs (id_ce ce_inhibit_any_policy)) contents.Number
    (cond (is_arcs arcs (id_ce ce_crl_number)) contents.Number
    (cond (is_arcs arcs (id_ce ce_delta_crl_indicator)) contents.Number
    (cond (is_arcs arcs (id_ce ce_crl_reason)) contents.Reason
    (cond (is_arcs arcs (id_ce ce_invalidity_date)) contents.Moment
    (cond (is_arcs arcs (id_ce ce_issuing_distribution_point)) contents.IssuingPoint
    (cond (is_arcs arcs (id_ce ce_certificate_issuer)) contents.Names (kind_of_others arcs)))))))))))

unfoldable pub kind_of : List ℕ → Contents
kind_of arcs =
    cond (is_arcs arcs (id_ce ce_key_usage)) contents.KeyUsage
    (cond (is_arcs arcs (id_ce ce_subject_key_identifier)) contents.KeyId
    (cond (is_arcs arcs (id_ce ce_authority_key_identifier)) contents.AuthorityKeyId
    (cond (is_arcs arcs (id_ce ce_subject_alt_name)) contents.Names
    (cond (is_arcs arcs (id_ce ce_issuer_alt_name)) contents.Names
    (cond (is_arcs arcs (id_ce ce_basic_constraints)) contents.BasicConstraints
    (cond (is_arcs arcs (id_ce ce_ext_key_usage)) contents.Purposes
    (cond (is_arcs arcs (id_ce ce_crl_distribution_points)) contents.Points
    (cond (is_arcs arcs (id_ce ce_freshest_crl)) contents.Points
    (cond (is_arcs arcs (id_pe 1)) contents.Access
    (cond (is_arcs arcs (id_pe 11)) contents.Access (kind_of_rarer arcs)))))))))))

-- ---- values

-- the value whose DER encoding the octets are; octets are counted from the first of them
abbrev pub read_text : {A : Type 0} → Codec A → (A → List ℕ) → List ℕ → List ℕ
read_text c text octets = read_at c text (in_front octets)

-- each value of a SEQUENCE OF, one by one where it can't be read as a whole
abbrev pub each_read : {A : Type 0} → Codec A → (A → List ℕ) → List ℕ → List ℕ
each_read c text octets = read_or_parts (sequence_of c 0 None refl) (each_text text) next_line (read_at c text) (in_front octets)

-- of an extension without a value, which has NULL
unfoldable pub set_text : List ℕ → List ℕ
set_text octets = cond (pointwise nat_eq octets (5 ∷ 0 ∷ [])) (codes "yes") (unreadable_at (in_front octets))

unfoldable pub contents_text : Contents → List ℕ → List ℕ
contents_text contents.KeyUsage octets = read_text bit_string (names_text key_usage_names) octets
contents_text contents.KeyId octets = read_text octet_string hex_text octets
contents_text contents.AuthorityKeyId octets = read_text authority_key_identifier authority_key_text octets
contents_text contents.Names octets = each_read general_name general_name_text octets
contents_text contents.BasicConstraints octets = read_text basic_constraints basic_constraints_text octets
contents_text contents.Purposes octets = each_read object_identifier identifier_text octets
contents_text contents.Points octets = each_read distribution_point point_text octets
contents_text contents.Access octets = each_read access_description access_text octets
contents_text contents.Policies octets = each_read policy_information policy_text octets
contents_text contents.PolicyMappings octets = each_read policy_mapping policy_mapping_text octets
contents_text contents.PolicyConstraints octets = read_text policy_constraints policy_constraints_text octets
contents_text contents.NameConstraints octets = read_text name_constraints name_constraints_text octets
contents_text contents.Number octets = read_text integer integer_text octets
contents_text contents.Reason octets = read_text crl_reason crl_reason_text octets
contents_text contents.Moment octets = read_text generalized_time moment_text octets
contents_text contents.IssuingPoint octets = read_text issuing_distribution_point issuing_point_text octets
contents_text contents.Features octets = spread feature_at (in_front octets)
contents_text contents.Flag octets = set_text octets
contents_text contents.Timestamps octets = timestamp_list_text octets
contents_text contents.Text octets = attribute_value_text octets
contents_text contents.Elements octets = spread element_at (in_front octets)
contents_text contents.Unknown octets = hex_text octets

-- ---- lines

unfoldable pub critical_mark : Bool → List ℕ
critical_mark true = codes " (critical)"
critical_mark false = []

-- the name, or else the arcs, and whether it is critical
unfoldable pub extension_key : Extension → List ℕ
extension_key e = extension_name_text e.extn_id ++ critical_mark e.critical

unfoldable pub extension_line : List ℕ → Extension → List ℕ
extension_line indent e = line indent (extension_key e) (contents_text (kind_of e.extn_id) e.extn_value)

unfoldable pub all_extensions : List ℕ → List Extension → List ℕ
all_extensions indent es = flat_map (extension_line indent) es

-- a line for each, where there are any
unfoldable pub extension_lines : List ℕ → Option Extensions → List ℕ
extension_lines indent None = []
extension_lines indent (Some es) = all_extensions indent es.0
