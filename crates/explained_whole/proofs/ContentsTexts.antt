-- The text of an extension's value is indented, whatever it contains.
use Rattle.std.proofs.Common.{ℕ, Bool, true, false, cond, List, [], ◌∷◌, codes, nat_eq, None, refl}
use Rattle.std.specs.Cmp.Lexicographic.{pointwise}
use Rattle.asn1_core.specs.declared.time.generalized_time.GeneralizedTime.{GeneralizedTime}
use Rattle.der_tree.specs.Codec.{Codec}
use Rattle.der_tree.specs.Grammar.{sequence_of}
use Rattle.der_tree.specs.PrimitiveTypes.{bit_string, generalized_time, integer, object_identifier, octet_string}
use Rattle.pkix_cert.specs.Constraints.{basic_constraints, name_constraints}
use Rattle.pkix_cert.specs.Distributions.{distribution_point, issuing_distribution_point}
use Rattle.pkix_cert.specs.ExtensionIds.{id_ce, ce_authority_key_identifier, ce_basic_constraints, ce_certificate_issuer, ce_certificate_policies, ce_crl_distribution_points, ce_crl_number, ce_crl_reason}
use Rattle.pkix_cert.specs.ExtensionIds.{ce_delta_crl_indicator, ce_ext_key_usage, ce_freshest_crl, ce_inhibit_any_policy, ce_invalidity_date, ce_issuer_alt_name, ce_issuing_distribution_point}
use Rattle.pkix_cert.specs.ExtensionIds.{ce_key_usage, ce_name_constraints, ce_policy_constraints, ce_policy_mappings, ce_subject_alt_name, ce_subject_key_identifier}
use Rattle.pkix_cert.specs.KeyIdentifiers.{authority_key_identifier}
use Rattle.pkix_cert.specs.Revocations.{crl_reason}
use Rattle.pkix_name.specs.GeneralNames.{general_name}
use Rattle.pkix_trust.specs.Accesses.{access_description}
use Rattle.pkix_trust.specs.Policies.{policy_constraints, policy_information, policy_mapping}
use Rattle.shelf_explain.specs.BitNames.{key_usage_names, names_text}
use Rattle.shelf_explain.specs.ConstraintTexts.{basic_constraints_text, name_constraints_text}
use Rattle.shelf_explain.specs.Elements.{element_at, feature_at}
use Rattle.shelf_explain.specs.ExtensionTexts.{contents_text, id_pe, is_arcs, kind_of, kind_of_others, kind_of_rarer, microsoft, set_text}
use Rattle.shelf_explain.specs.GeneralNames.{each_text, general_name_text}
use Rattle.shelf_explain.specs.Known.{identifier_text}
use Rattle.shelf_explain.specs.Lines.{hex_text, next_line}
use Rattle.shelf_explain.specs.Names.{attribute_value_text}
use Rattle.shelf_explain.specs.Numbers.{integer_text}
use Rattle.shelf_explain.specs.PartTexts.{read_at, unreadable_at}
use Rattle.shelf_explain.specs.Parts.{in_front, parts_of}
use Rattle.shelf_explain.specs.Points.{authority_key_text, crl_reason_text, issuing_point_text, point_text}
use Rattle.shelf_explain.specs.PolicyTexts.{access_text, policy_constraints_text, policy_mapping_text, policy_text}
use Rattle.shelf_explain.specs.Times.{moment_text}
use Rattle.explained_whole.proofs.Breaks.{attribute_value_unbroken, break_wide, identifier_passes, integer_unbroken, no_break}
use Rattle.explained_whole.proofs.ExtensionTexts.{access_indented, authority_key_indented, basic_constraints_indented, each_text_indented, element_at_indented, feature_at_indented, general_name_indented, issuing_point_indented, key_usage_indented, name_constraints_indented, point_indented, policy_constraints_indented, policy_indented, policy_mapping_indented, reason_indented}
use Rattle.explained_whole.proofs.Indents.{either, indented, of_unbroken}
use Rattle.explained_whole.proofs.Leaves.{moment_unbroken}
use Rattle.explained_whole.proofs.PartTexts.{hex_indented, next_indented, read_indented, read_parts_indented, spread_indented, unreadable_indented}
use Rattle.explained_whole.proofs.Timestamps.{timestamp_list_indented}

one_read : {A : Type 0} (c : Codec A) (text : A → List ℕ) → ((v : A) → indented (text v)) → (octets : List ℕ) → indented (read_at c text (in_front octets))
one_read c text h octets = read_indented c text h (in_front octets)

each_read : {A : Type 0} (c : Codec A) (text : A → List ℕ) → ((v : A) → indented (text v)) → (octets : List ℕ)
    → indented (Rattle.shelf_explain.specs.ExtensionTexts.each_read c text octets)
each_read c text h octets =
    read_parts_indented (sequence_of c 0 None refl) (each_text text) next_line (read_at c text) (each_text_indented text h) next_indented
    (read_indented c text h) (in_front octets)

set_indented : (octets : List ℕ) → indented (set_text octets)
unfolding set_text
set_indented octets =
    either (pointwise nat_eq octets (5 ∷ 0 ∷ [])) (codes "yes") (unreadable_at (in_front octets)) refl (unreadable_indented (in_front octets))

identifier_indented : (arcs : List ℕ) → indented (identifier_text arcs)
identifier_indented arcs = of_unbroken (identifier_text arcs) (identifier_passes no_break break_wide arcs)

integer_indented : (octets : List ℕ) → indented (integer_text octets)
integer_indented octets = of_unbroken (integer_text octets) (integer_unbroken octets)

moment_indented : (t : GeneralizedTime) → indented (moment_text t)
moment_indented t = of_unbroken (moment_text t) (moment_unbroken t)

-- ---- by the identifier, since what there is has no name here

choice : {K : Type 0} (P : K → Type 0) (b : Bool) (x y : K) → P x → P y → P (cond b x y)
choice P true x y h k = h
choice P false x y h k = k

other_contents : (arcs octets : List ℕ) → indented (contents_text (kind_of_others arcs) octets)
unfolding kind_of_others
other_contents arcs octets =
    choice (λ k. indented (contents_text k octets)) (is_arcs arcs (id_pe 24)) _ _ (unfold contents_text in spread_indented feature_at feature_at_indented (parts_of (in_front octets)) (in_front octets))
    (choice (λ k. indented (contents_text k octets)) (is_arcs arcs (1 ∷ 3 ∷ 6 ∷ 1 ∷ 5 ∷ 5 ∷ 7 ∷ 48 ∷ 1 ∷ 5 ∷ [])) _ _ (unfold contents_text in set_indented octets)
    (choice (λ k. indented (contents_text k octets)) (is_arcs arcs (1 ∷ 3 ∷ 6 ∷ 1 ∷ 4 ∷ 1 ∷ 11129 ∷ 2 ∷ 4 ∷ 3 ∷ [])) _ _ (unfold contents_text in set_indented octets)
    (choice (λ k. indented (contents_text k octets)) (is_arcs arcs (1 ∷ 3 ∷ 6 ∷ 1 ∷ 4 ∷ 1 ∷ 11129 ∷ 2 ∷ 4 ∷ 2 ∷ [])) _ _ (unfold contents_text in timestamp_list_indented octets)
    (choice (λ k. indented (contents_text k octets)) (is_arcs arcs (microsoft (20 ∷ 2 ∷ []))) _ _ (unfold contents_text in of_unbroken (attribute_value_text octets) (attribute_value_unbroken octets))
    (choice (λ k. indented (contents_text k octets)) (is_arcs arcs (2 ∷ 16 ∷ 840 ∷ 1 ∷ 113730 ∷ 1 ∷ 13 ∷ [])) _ _ (unfold contents_text in of_unbroken (attribute_value_text octets) (attribute_value_unbroken octets))
    (choice (λ k. indented (contents_text k octets)) (is_arcs arcs (microsoft (21 ∷ 1 ∷ []))) _ _ (unfold contents_text in one_read integer integer_text integer_indented octets)
    (choice (λ k. indented (contents_text k octets)) (is_arcs arcs (microsoft (21 ∷ 2 ∷ []))) _ _ (unfold contents_text in one_read octet_string hex_text hex_indented octets)
    (choice (λ k. indented (contents_text k octets)) (is_arcs arcs (microsoft (21 ∷ 7 ∷ []))) _ _ (unfold contents_text in spread_indented element_at element_at_indented (parts_of (in_front octets)) (in_front octets))
    (choice (λ k. indented (contents_text k octets)) (is_arcs arcs (microsoft (21 ∷ 10 ∷ []))) _ _ (unfold contents_text in each_read policy_information policy_text policy_indented octets) (unfold contents_text in hex_indented octets))))))))))

rarer_contents : (arcs octets : List ℕ) → indented (contents_text (kind_of_rarer arcs) octets)
unfolding kind_of_rarer
rarer_contents arcs octets =
    choice (λ k. indented (contents_text k octets)) (is_arcs arcs (id_ce ce_certificate_policies)) _ _ (unfold contents_text in each_read policy_information policy_text policy_indented octets)
    (choice (λ k. indented (contents_text k octets)) (is_arcs arcs (id_ce ce_policy_mappings)) _ _ (unfold contents_text in each_read policy_mapping policy_mapping_text policy_mapping_indented octets)
    (choice (λ k. indented (contents_text k octets)) (is_arcs arcs (id_ce ce_policy_constraints)) _ _ (unfold contents_text in one_read policy_constraints policy_constraints_text policy_constraints_indented octets)
    (choice (λ k. indented (contents_text k octets)) (is_arcs arcs (id_ce ce_name_constraints)) _ _ (unfold contents_text in one_read name_constraints name_constraints_text name_constraints_indented octets)
    (choice (λ k. indented (contents_text k octets)) (is_arcs arcs (id_ce ce_inhibit_any_policy)) _ _ (unfold contents_text in one_read integer integer_text integer_indented octets)
    (choice (λ k. indented (contents_text k octets)) (is_arcs arcs (id_ce ce_crl_number)) _ _ (unfold contents_text in one_read integer integer_text integer_indented octets)
    (choice (λ k. indented (contents_text k octets)) (is_arcs arcs (id_ce ce_delta_crl_indicator)) _ _ (unfold contents_text in one_read integer integer_text integer_indented octets)
    (choice (λ k. indented (contents_text k octets)) (is_arcs arcs (id_ce ce_crl_reason)) _ _ (unfold contents_text in one_read crl_reason crl_reason_text reason_indented octets)
    (choice (λ k. indented (contents_text k octets)) (is_arcs arcs (id_ce ce_invalidity_date)) _ _ (unfold contents_text in one_read generalized_time moment_text moment_indented octets)
    (choice (λ k. indented (contents_text k octets)) (is_arcs arcs (id_ce ce_issuing_distribution_point)) _ _ (unfold contents_text in one_read issuing_distribution_point issuing_point_text issuing_point_indented octets)
    (choice (λ k. indented (contents_text k octets)) (is_arcs arcs (id_ce ce_certificate_issuer)) _ _ (unfold contents_text in each_read general_name general_name_text general_name_indented octets) (other_contents arcs octets)))))))))))

pub contents_indented : (arcs octets : List ℕ) → indented (contents_text (kind_of arcs) octets)
unfolding kind_of
contents_indented arcs octets =
    choice (λ k. indented (contents_text k octets)) (is_arcs arcs (id_ce ce_key_usage)) _ _ (unfold contents_text in one_read bit_string (names_text key_usage_names) key_usage_indented octets)
    (choice (λ k. indented (contents_text k octets)) (is_arcs arcs (id_ce ce_subject_key_identifier)) _ _ (unfold contents_text in one_read octet_string hex_text hex_indented octets)
    (choice (λ k. indented (contents_text k octets)) (is_arcs arcs (id_ce ce_authority_key_identifier)) _ _ (unfold contents_text in one_read authority_key_identifier authority_key_text authority_key_indented octets)
    (choice (λ k. indented (contents_text k octets)) (is_arcs arcs (id_ce ce_subject_alt_name)) _ _ (unfold contents_text in each_read general_name general_name_text general_name_indented octets)
    (choice (λ k. indented (contents_text k octets)) (is_arcs arcs (id_ce ce_issuer_alt_name)) _ _ (unfold contents_text in each_read general_name general_name_text general_name_indented octets)
    (choice (λ k. indented (contents_text k octets)) (is_arcs arcs (id_ce ce_basic_constraints)) _ _ (unfold contents_text in one_read basic_constraints basic_constraints_text basic_constraints_indented octets)
    (choice (λ k. indented (contents_text k octets)) (is_arcs arcs (id_ce ce_ext_key_usage)) _ _ (unfold contents_text in each_read object_identifier identifier_text identifier_indented octets)
    (choice (λ k. indented (contents_text k octets)) (is_arcs arcs (id_ce ce_crl_distribution_points)) _ _ (unfold contents_text in each_read distribution_point point_text point_indented octets)
    (choice (λ k. indented (contents_text k octets)) (is_arcs arcs (id_ce ce_freshest_crl)) _ _ (unfold contents_text in each_read distribution_point point_text point_indented octets)
    (choice (λ k. indented (contents_text k octets)) (is_arcs arcs (id_pe 1)) _ _ (unfold contents_text in each_read access_description access_text access_indented octets)
    (choice (λ k. indented (contents_text k octets)) (is_arcs arcs (id_pe 11)) _ _ (unfold contents_text in each_read access_description access_text access_indented octets) (rarer_contents arcs octets)))))))))))
