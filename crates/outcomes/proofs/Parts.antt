-- How many octets the parts of certificates and requests have at most.
use Rattle.std.specs.Prelude.{◌≡◌, ◌==◌, ◌&&◌, ℕ, ◌+◌, ◌*◌, Bool, true, false, cond, List, [], ◌∷◌, length, map, Option, Some, None, Ok, is_ok, refl}
use Rattle.std.specs.Int.{trailing_zeros, w8}
use Rattle.std.specs.List.{AllZip, list_any, sum_by}
use Rattle.std.specs.Option.{IfSome, option_map, option_map_or}
use Rattle.std.proofs.Common.{arith, subst, sym}
use Rattle.std.proofs.lemmas.List.Sums.{sum_by-cons}
use Rattle.asn1_core.specs.Bits.{bits}
use Rattle.asn1_core.specs.StringTypes.{ia5}
use Rattle.asn1_core.specs.Twos.{unsigned}
use Rattle.der_tree.specs.CharacterStrings.{ia5_string}
use Rattle.der_tree.specs.Codec.{Codec, struct_of}
use Rattle.der_tree.specs.Element.{element_octets}
use Rattle.der_tree.specs.Grammar.{any, beq, beq_exact, defaulted, explicitly, implicitly, optional, required, sequence_of, set_fields, set_of, with_default, ◌&◌}
use Rattle.der_tree.specs.InstanceOf.{instance_of, instance_of_fields}
use Rattle.der_tree.specs.PrimitiveTypes.{bit_string, boolean, integer, object_identifier, octet_string}
use Rattle.der_tree.specs.SequenceOf.{each_put, is_within, list_put}
use Rattle.der_tree.specs.SetOf.{ascend, kept_order, set_put}
use Rattle.der_tree.specs.Tags.{context, universal}
use Rattle.der_tree.specs.Tree.{PlainTree}
use Rattle.der_tree.specs.TreeElement.{elements_of}
use Rattle.der_tree.specs.declared.error.EncodeError.TheVariants.{SizeOutOfRange}
use Rattle.der_tree.specs.laws.Results.{ok_chosen, ok_kept, ok_then_ok}
use Rattle.pkix_cert.specs.Algorithms.{algorithm_identifier, algorithm_identifier_fields, subject_public_key_info, subject_public_key_info_fields}
use Rattle.pkix_cert.specs.Constraints.{basic_constraints, basic_constraints_fields, general_subtree, general_subtree_fields}
use Rattle.pkix_cert.specs.Constraints.{name_constraints as name_constraints_codec, name_constraints_fields}
use Rattle.pkix_cert.specs.Distances.{same_integer, same_integer_exact, zero}
use Rattle.pkix_cert.specs.Distributions.{distribution_point, distribution_point_fields, distribution_point_name}
use Rattle.pkix_cert.specs.declared.algorithm.SubjectPublicKeyInfo.{SubjectPublicKeyInfo}
use Rattle.pkix_cert.specs.declared.constraint.GeneralSubtree.{GeneralSubtree}
use Rattle.pkix_cert.specs.declared.distribution.DistributionPoint.{DistributionPoint}
use Rattle.pkix_name.specs.GeneralNames.{general_name}
use Rattle.pkix_name.specs.Names.{attribute_type_and_value, attribute_type_and_value_fields, name, one_attribute, one_attribute_is, relative_distinguished_name}
use Rattle.pkix_name.specs.declared.general_name.GeneralName.{GeneralName}
use Rattle.pkix_name.specs.declared.name.AttributeTypeAndValue.{AttributeTypeAndValue}
use Rattle.pkix_name.specs.declared.name.Name.{Name}
use Rattle.pkix_name.specs.declared.name.Name.TheVariants.{RdnSequence}
use Rattle.pkix_name.specs.declared.name.RelativeDistinguishedName.{RelativeDistinguishedName}
use Rattle.rcgen_certificate.specs.BasicConstraints.{constraints}
use Rattle.rcgen_certificate.specs.CustomExtensions.{Custom, custom_row}
use Rattle.rcgen_certificate.specs.DistributionPoints.{crl_distribution_points, full_name, point_value}
use Rattle.rcgen_certificate.specs.ExtendedKeyUsages.{Purpose, ext_key_usage, purpose_oid}
use Rattle.rcgen_certificate.specs.ExtensionRows.{unless_empty}
use Rattle.rcgen_certificate.specs.KeyUsages.{bit_of, first_byte, key_usage, named_bits}
use Rattle.rcgen_certificate.specs.NameConstraints.{Base, Bases, base_value, constraints_value, directory_base, dns_base, ip_base, name_constraints, rfc822_base, subtree_value, subtrees}
use Rattle.rcgen_certificate.specs.NameValues.{name_value, text_element}
use Rattle.rcgen_certificate.specs.SubjectAltNames.{address_octets, general_name_value, subject_alt_name}
use Rattle.rcgen_text.specs.Addresses.{subnet_octets}
use Rattle.rcgen_text.specs.AlternativeNames.{AlternativeName, dns_name, ip_address, other_name, rfc822_name, uri}
use Rattle.rcgen_text.specs.DnValues.{utf8_string}
use Rattle.rcgen_text.specs.declared.basic_constraints.BasicConstraints.TheVariants.{Unconstrained, Constrained}
use Rattle.rcgen_text.specs.declared.basic_constraints.IsCa.{IsCa}
use Rattle.rcgen_text.specs.declared.basic_constraints.IsCa.TheVariants.{NoCa, ExplicitNoCa, Ca}
use Rattle.rcgen_text.specs.declared.key_usage.KeyUsagePurpose.{KeyUsagePurpose}
use Rattle.rcgen_sign.proofs.ElementCounts.{element_octets_count}
use Rattle.outcomes.specs.PartSizes.{alternative_size, attribute_size, base_size, bases_size, custom_size, distribution_size, info_size, name_size, parameters_size, part_size, purpose_size}
use Rattle.outcomes.specs.Sizes.{uri_size}
use Rattle.outcomes.proofs.Rows.{number_within, row_size, rows_size}
use Rattle.outcomes.proofs.Texts.{point_name_within, text_within}
use Rattle.outcomes.proofs.Within.{Within, any_within, bits_within, boolean_within, each_within, field, field_by_default, field_if, fields_both, identifier_within, in_explicit, in_implicit, in_list, in_sequence, integer_within, octets_within, widened}

-- ---- lists

-- each value is made of its part
pub map_zip : {X A : Type 0} (f : X → A) (xs : List X) → AllZip (λ (x : X) (v : A). v ≡ f x) xs (map f xs)
map_zip f [] = tt
map_zip f (x ∷ xs) = (refl, map_zip f xs)

pub in_list_of : {X A : Type 0} (c : Codec A) (low : ℕ) (high : Option ℕ) (room : is_within low high low ≡ true) (f : X → A) (size : X → ℕ)
    → ((x : X) → Within c (f x) (size x)) → (xs : List X) → Within (sequence_of c low high room) (map f xs) (20 + sum_by size xs)
in_list_of {X} {A} c low high room f size one xs =
    in_list c low high room (λ (x : X) (v : A). v ≡ f x) size
    (λ x v e. subst (λ (w : A). Within c w (size x)) (sym e) (one x)) xs (map f xs) (map_zip f xs)

same_zip : {A : Type 0} (vs : List A) → AllZip (λ (x v : A). v ≡ x) vs vs
same_zip [] = tt
same_zip (v ∷ vs) = (refl, same_zip vs)

pub in_set : {A : Type 0} (c : Codec A) (low : ℕ) (high : Option ℕ) (some : List A) (there : is_ok (set_put c low high some) ≡ true) (size : A → ℕ)
    → ((v : A) → Within c v (size v)) → (vs : List A) → Within (set_of c low high some there) vs (20 + sum_by size vs)
in_set {A} c low high some there size one vs =
    in_sequence (universal 17) (struct_of (set_fields c low high some there) refl) vs (sum_by size vs)
    (λ ts e. let x = ok_then_ok (list_put c low high vs) kept_order ts e in
    let k = ok_kept (is_within low high (length vs)) (each_put c vs) x.0 SizeOutOfRange x.1 in
    let same = (ok_chosen (ascend (elements_of x.0)) x.0 ts SizeOutOfRange x.2).1 in
    each_within c (λ (x v : A). v ≡ x) size (λ x v p. subst (λ (w : A). Within c w (size x)) (sym p) (one x)) vs vs (same_zip vs) ts
    (subst (λ (l : List PlainTree). each_put c vs ≡ Ok l) same k.1))

-- a list that is there where it isn't empty
pub if_some_list : {A B : Type 0} (f : List A → B) (P : B → Type 0) (xs : List A) → P (f xs) → IfSome (option_map f (unless_empty xs)) P
if_some_list f P xs h = elim (length xs == 0) as (λ b. IfSome (option_map f (cond b None (Some xs))) P) [ true ↦ tt | false ↦ h ]

-- ---- names

pub attribute_within : (a : AttributeTypeAndValue) → Within attribute_type_and_value a (attribute_size a)
unfolding attribute_type_and_value_fields
attribute_within a t e =
    let id = field object_identifier a.attr_type (20 + 10 * length a.attr_type) (identifier_within a.attr_type) in
    let value = field any a.value (length a.value) (any_within a.value) in
    let both = fields_both (required object_identifier) (required any) a.attr_type a.value (20 + 10 * length a.attr_type) (length a.value) id value in
    let whole = in_sequence (universal 16) attribute_type_and_value_fields a (20 + 10 * length a.attr_type + length a.value) both t e in
    omega arith

part_within : (p : RelativeDistinguishedName) → Within relative_distinguished_name p (part_size p)
part_within p t e = in_set attribute_type_and_value 1 None one_attribute one_attribute_is attribute_size attribute_within p.0 t e

pub name_within : (n : Name) → Within name n (name_size n)
name_within (RdnSequence parts) t e =
    in_list relative_distinguished_name 0 None refl (λ (x v : RelativeDistinguishedName). v ≡ x) part_size
    (λ x v p. subst (λ (w : RelativeDistinguishedName). Within relative_distinguished_name w (part_size x)) (sym p) (part_within x)) parts parts (same_zip parts) t e

-- ---- alternative names

other_within : (arcs value : List ℕ) → Within (instance_of any) (record { type_id = arcs; value = value }) (60 + 10 * length arcs + length value)
unfolding instance_of_fields
other_within arcs value t e =
    let id = field object_identifier arcs (20 + 10 * length arcs) (identifier_within arcs) in
    let given = field (explicitly (context 0) any) value (20 + length value) (in_explicit (context 0) any value (length value) (any_within value)) in
    let both = fields_both (required object_identifier) (required (explicitly (context 0) any)) arcs value (20 + 10 * length arcs) (20 + length value) id given in
    let whole = in_sequence (universal 16) (instance_of_fields any) (record { type_id = arcs; value = value }) (20 + 10 * length arcs + (20 + length value)) both t e in
    omega arith

pub alternative_within : (n : AlternativeName) → Within general_name (general_name_value n) (alternative_size n)
alternative_within (rfc822_name text) t e = let k = in_implicit (context 1) ia5_string refl text (20 + length text) (text_within ia5 text) t e in omega arith
alternative_within (dns_name text) t e = let k = in_implicit (context 2) ia5_string refl text (20 + length text) (text_within ia5 text) t e in omega arith
alternative_within (uri text) t e = let k = in_implicit (context 6) ia5_string refl text (20 + length text) (text_within ia5 text) t e in omega arith
alternative_within (ip_address a) t e =
    let b = address_octets a in
    let k = in_implicit (context 7) octet_string refl b (20 + length b) (octets_within b) t e in omega arith
alternative_within (other_name arcs text) t e =
    let value = element_octets (text_element (utf8_string text)) in
    let size = element_octets_count (text_element (utf8_string text)) in
    let k = in_implicit (context 0) (instance_of any) refl (record { type_id = arcs; value = value }) (60 + 10 * length arcs + length value) (other_within arcs value) t e in
    omega arith

pub alternatives_within : (names : List AlternativeName)
    → IfSome (subject_alt_name names) (λ x. Within (sequence_of general_name 0 None refl) x (20 + sum_by alternative_size names))
alternatives_within names =
    if_some_list (map general_name_value) (λ (x : List GeneralName). Within (sequence_of general_name 0 None refl) x (20 + sum_by alternative_size names)) names
    (in_list_of general_name 0 None refl general_name_value alternative_size alternative_within names)

-- ---- purposes

pub purposes_within : (ps : List Purpose)
    → IfSome (ext_key_usage ps) (λ x. Within (sequence_of object_identifier 0 None refl) x (20 + sum_by purpose_size ps))
purposes_within ps =
    if_some_list (map purpose_oid) (λ (x : List (List ℕ)). Within (sequence_of object_identifier 0 None refl) x (20 + sum_by purpose_size ps)) ps
    (in_list_of object_identifier 0 None refl purpose_oid purpose_size (λ p. identifier_within (purpose_oid p)) ps)

-- ---- subtrees

base_within : (b : Base) → Within general_name (base_value b) (60 + base_size b)
base_within (rfc822_base text) t e = let k = in_implicit (context 1) ia5_string refl text (20 + length text) (text_within ia5 text) t e in omega arith
base_within (dns_base text) t e = let k = in_implicit (context 2) ia5_string refl text (20 + length text) (text_within ia5 text) t e in omega arith
base_within (directory_base es) t e =
    let k = in_explicit (context 4) name (name_value es) (name_size (name_value es)) (name_within (name_value es)) t e in omega arith
base_within (ip_base n) t e =
    let b = subnet_octets n in
    let k = in_implicit (context 7) octet_string refl b (20 + length b) (octets_within b) t e in omega arith

subtree_within : (b : Base) → Within general_subtree (subtree_value b) (200 + base_size b)
unfolding general_subtree_fields
subtree_within b t e =
    let base = field general_name (base_value b) (60 + base_size b) (base_within b) in
    let least = field_by_default (implicitly (context 0) integer refl) same_integer zero zero 41 (in_implicit (context 0) integer refl zero 21 (integer_within zero)) in
    let most = field_if (implicitly (context 1) integer refl) None 0 tt in
    let f2 = optional (implicitly (context 1) integer refl) in
    let f1 = with_default (implicitly (context 0) integer refl) same_integer same_integer_exact zero in
    let two = fields_both f1 f2 zero None 41 0 least most in
    let all = fields_both (required general_name) (f1 & f2) (base_value b) (zero, None) (60 + base_size b) 41 base two in
    let whole = in_sequence (universal 16) general_subtree_fields (subtree_value b) (60 + base_size b + 41) all t e in
    omega arith

abbrev subtree_size : Base → ℕ
subtree_size b = 200 + base_size b

some_subtrees : (bs : List Base) → IfSome (subtrees bs) (λ x. Within (sequence_of general_subtree 0 None refl) x (20 + sum_by subtree_size bs))
some_subtrees bs =
    if_some_list (map subtree_value) (λ (x : List GeneralSubtree). Within (sequence_of general_subtree 0 None refl) x (20 + sum_by subtree_size bs)) bs
    (in_list_of general_subtree 0 None refl subtree_value subtree_size subtree_within bs)

tagged_subtrees : (g : ℕ) (o : Option (List GeneralSubtree)) (n : ℕ) → IfSome o (λ x. Within (sequence_of general_subtree 0 None refl) x n)
    → IfSome o (λ x. Within (implicitly (context g) (sequence_of general_subtree 0 None refl) refl) x (20 + n))
tagged_subtrees g None n h = tt
tagged_subtrees g (Some x) n h = in_implicit (context g) (sequence_of general_subtree 0 None refl) refl x n h

both_within : (b : Bases) → Within name_constraints_codec (constraints_value b) (bases_size b)
unfolding name_constraints_fields
both_within b t e =
    let m = sum_by subtree_size b.permitted in
    let n = sum_by subtree_size b.excluded in
    let f0 = implicitly (context 0) (sequence_of general_subtree 0 None refl) refl in
    let f1 = implicitly (context 1) (sequence_of general_subtree 0 None refl) refl in
    let first = field_if f0 (subtrees b.permitted) (20 + (20 + m)) (tagged_subtrees 0 (subtrees b.permitted) (20 + m) (some_subtrees b.permitted)) in
    let second = field_if f1 (subtrees b.excluded) (20 + (20 + n)) (tagged_subtrees 1 (subtrees b.excluded) (20 + n) (some_subtrees b.excluded)) in
    let both = fields_both (optional f0) (optional f1) (subtrees b.permitted) (subtrees b.excluded) (20 + (20 + m)) (20 + (20 + n)) first second in
    let whole = in_sequence (universal 16) name_constraints_fields (constraints_value b) (20 + (20 + m) + (20 + (20 + n))) both t e in
    omega arith

pub constraints_within : (o : Option Bases) → IfSome (name_constraints o) (λ x. Within name_constraints_codec x (option_map_or bases_size o 0))
constraints_within None = tt
constraints_within (Some b) =
    elim (length b.permitted == 0 && length b.excluded == 0)
    as (λ t. IfSome (cond t None (Some (constraints_value b))) (λ x. Within name_constraints_codec x (bases_size b))) [ true ↦ tt | false ↦ both_within b ]

-- ---- distribution points

point_within : (uris : List (List ℕ)) → Within distribution_point (point_value uris) (distribution_size uris)
unfolding distribution_point_fields
point_within uris t e =
    let n = sum_by uri_size uris in
    let f0 = explicitly (context 0) distribution_point_name in
    let f1 = implicitly (context 1) bit_string refl in
    let f2 = implicitly (context 2) (sequence_of general_name 0 None refl) refl in
    let own = field_if f0 (Some (full_name uris)) (20 + (40 + n)) (in_explicit (context 0) distribution_point_name (full_name uris) (40 + n) (point_name_within uris)) in
    let two = fields_both (optional f1) (optional f2) None None 0 0 (field_if f1 None 0 tt) (field_if f2 None 0 tt) in
    let all = fields_both (optional f0) (optional f1 & optional f2) (Some (full_name uris)) (None, None) (20 + (40 + n)) 0 own two in
    let whole = in_sequence (universal 16) distribution_point_fields (point_value uris) (20 + (40 + n) + 0) all t e in
    omega arith

pub points_within : (ps : List (List (List ℕ)))
    → IfSome (crl_distribution_points ps) (λ x. Within (sequence_of distribution_point 0 None refl) x (20 + sum_by distribution_size ps))
points_within ps =
    if_some_list (map point_value) (λ (x : List DistributionPoint). Within (sequence_of distribution_point 0 None refl) x (20 + sum_by distribution_size ps)) ps
    (in_list_of distribution_point 0 None refl point_value distribution_size point_within ps)

-- ---- usages, constraints and extensions that are given

few_bits : (us : List KeyUsagePurpose) → Within bit_string (named_bits us) 23
few_bits us =
    elim (list_any (λ u. bit_of u == 8) us) as (λ b. Within bit_string (cond b (bits 7 (first_byte us ∷ 128 ∷ []))
    (bits (trailing_zeros w8 (first_byte us)) (first_byte us ∷ []))) 23) [
      | true ↦ bits_within (bits 7 (first_byte us ∷ 128 ∷ []))
      | false ↦ widened bit_string (bits (trailing_zeros w8 (first_byte us)) (first_byte us ∷ [])) 22 23 (omega arith)
          (bits_within (bits (trailing_zeros w8 (first_byte us)) (first_byte us ∷ [])))
    ]

pub usages_within : (us : List KeyUsagePurpose) → IfSome (key_usage us) (λ x. Within bit_string x 23)
usages_within us = if_some_list named_bits (λ x. Within bit_string x 23) us (few_bits us)

constraint_of : (ca : Bool) (o : Option (List ℕ)) → IfSome o (λ x. Within integer x 22)
    → Within basic_constraints (record { ca = ca; path_len_constraint = o }) 100
unfolding basic_constraints_fields
constraint_of ca o h t e =
    let first = field_by_default boolean beq false ca 21 (boolean_within ca) in
    let second = field_if integer o 22 h in
    let both = fields_both (defaulted boolean beq beq_exact false) (optional integer) ca o 21 22 first second in
    let whole = in_sequence (universal 16) basic_constraints_fields (record { ca = ca; path_len_constraint = o }) 43 both t e in
    omega arith

pub ca_within : (is_ca : IsCa) → IfSome (constraints is_ca) (λ x. Within basic_constraints x 100)
ca_within NoCa = tt
ca_within ExplicitNoCa = constraint_of false None tt
ca_within (Ca Unconstrained) = constraint_of true None tt
ca_within (Ca (Constrained n)) = constraint_of true (Some (unsigned (n ∷ []))) (number_within (n ∷ []))

pub customs_within : (cs : List Custom) → rows_size (map custom_row cs) ≡ sum_by custom_size cs
customs_within [] = refl
customs_within (c ∷ cs) = omega (arith, customs_within cs, sum_by-cons custom_size c cs, sum_by-cons row_size (custom_row c) (map custom_row cs))

-- ---- keys

parameters_within : (o : Option (List ℕ)) → IfSome o (λ v. Within any v (parameters_size o))
parameters_within None = tt
parameters_within (Some b) = any_within b

pub info_within : (i : SubjectPublicKeyInfo) → Within subject_public_key_info i (info_size i)
unfolding subject_public_key_info_fields algorithm_identifier_fields
info_within i t e =
    let a = i.algorithm in
    let m = 20 + 10 * length a.algorithm in
    let n = parameters_size a.parameters in
    let k = length i.subject_public_key.bytes in
    let id = field object_identifier a.algorithm m (identifier_within a.algorithm) in
    let given = field_if any a.parameters n (parameters_within a.parameters) in
    let both = fields_both (required object_identifier) (optional any) a.algorithm a.parameters m n id given in
    let algorithm = field algorithm_identifier a (20 + (m + n)) (in_sequence (universal 16) algorithm_identifier_fields a (m + n) both) in
    let key = field bit_string i.subject_public_key (21 + k) (bits_within i.subject_public_key) in
    let all = fields_both (required algorithm_identifier) (required bit_string) a i.subject_public_key (20 + (m + n)) (21 + k) algorithm key in
    let whole = in_sequence (universal 16) subject_public_key_info_fields i (20 + (m + n) + (21 + k)) all t e in
    omega arith
