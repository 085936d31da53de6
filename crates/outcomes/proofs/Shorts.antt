-- Parts of parameters that have fewer than 2^64 octets, and their rows.
use Rattle.std.specs.Prelude.{ℕ, ◌+◌, ◌≤◌, ◌<◌, ◌^◌, Bool, true, false, List, [], ◌∷◌, map, Option, Some, None, refl}
use Rattle.std.specs.List.{AllByRecursion, sum_by}
use Rattle.std.specs.Option.{IfSome, option_map_or}
use Rattle.std.proofs.Common.{arith}
use Rattle.std.proofs.lemmas.List.Sums.{sum_by-append, sum_by-cons}
use Rattle.der_tree.specs.Codec.{Codec}
use Rattle.der_tree.specs.Grammar.{sequence_of}
use Rattle.der_tree.specs.HasTree.{HasShortTree}
use Rattle.der_tree.specs.PrimitiveTypes.{bit_string, object_identifier}
use Rattle.der_tree.proofs.ShortTrees.{contents_within}
use Rattle.pkix_cert.specs.Constraints.{basic_constraints}
use Rattle.pkix_cert.specs.ExtensionIds.{ce_basic_constraints, ce_ext_key_usage, ce_key_usage, ce_subject_alt_name, id_ce}
use Rattle.pkix_name.specs.GeneralNames.{general_name}
use Rattle.pkix_name.specs.Names.{attribute_type_and_value}
use Rattle.rcgen_certificate.specs.BasicConstraints.{basic_constraints_row, constraints}
use Rattle.rcgen_certificate.specs.ExtendedKeyUsages.{Purpose, ext_key_usage, ext_key_usage_row}
use Rattle.rcgen_certificate.specs.KeyUsages.{key_usage, key_usage_row}
use Rattle.rcgen_certificate.specs.NameConstraints.{Base, Bases, all_bases, directory_base, dns_base, ip_base, rfc822_base}
use Rattle.rcgen_certificate.specs.NameValues.{attribute, name_value, relative_name, text_element}
use Rattle.rcgen_certificate.specs.ShortParts.{HasShortAttributes, HasShortBase, HasShortText, HaveShortTexts, IsShortAttribute}
use Rattle.rcgen_certificate.specs.SubjectAltNames.{subject_alt_name, subject_alt_name_row}
use Rattle.rcgen_text.specs.AlternativeNames.{AlternativeName, dns_name, ip_address, other_name, rfc822_name, uri}
use Rattle.rcgen_text.specs.Names.{Entry}
use Rattle.rcgen_text.specs.declared.basic_constraints.IsCa.{IsCa}
use Rattle.rcgen_text.specs.declared.key_usage.KeyUsagePurpose.{KeyUsagePurpose}
use Rattle.outcomes.specs.PartSizes.{alternative_size, attribute_size, base_size, bases_size, name_size, part_size, purpose_size}
use Rattle.outcomes.proofs.Parts.{alternatives_within, attribute_within, ca_within, purposes_within, usages_within}
use Rattle.outcomes.proofs.Rows.{row_within, rows_size}
use Rattle.outcomes.proofs.Views.{short_of}
use Rattle.outcomes.proofs.Within.{Within}

pub short_if : {A : Type 0} (c : Codec A) (o : Option A) (n : ℕ) → IfSome o (λ x. Within c x n) → n < 2 ^ 64 → IfSome o (HasShortTree c)
short_if c None n h l = tt
short_if c (Some x) n h l = short_of c x n h l

-- ---- names

short_attribute : (e : Entry) → part_size (relative_name e) < 2 ^ 60 → IsShortAttribute e
short_attribute e l =
    let one = sum_by-cons attribute_size (attribute e) [] in
    let text = contents_within (text_element e.text) in
    record { text = omega arith; whole = short_of attribute_type_and_value (attribute e) (attribute_size (attribute e)) (attribute_within (attribute e)) (omega arith) }

short_attributes : (es : List Entry) → sum_by part_size (map relative_name es) < 2 ^ 60 → HasShortAttributes es
short_attributes [] l = tt
short_attributes (e ∷ es) l =
    let both = sum_by-cons part_size (relative_name e) (map relative_name es) in
    (short_attribute e (omega arith), short_attributes es (omega arith))

pub short_name : (es : List Entry) → name_size (name_value es) < 2 ^ 60 → HasShortAttributes es
short_name es l = short_attributes es (omega arith)

short_text : (n : AlternativeName) → alternative_size n < 2 ^ 60 → HasShortText n
short_text (rfc822_name text) l = tt
short_text (dns_name text) l = tt
short_text (uri text) l = tt
short_text (ip_address address) l = tt
short_text (other_name arcs text) l = omega arith

pub short_texts : (ns : List AlternativeName) → sum_by alternative_size ns < 2 ^ 60 → HaveShortTexts ns
short_texts [] l = tt
short_texts (n ∷ ns) l =
    let both = sum_by-cons alternative_size n ns in
    (short_text n (omega arith), short_texts ns (omega arith))

short_base : (b : Base) → base_size b < 2 ^ 60 → HasShortBase b
short_base (rfc822_base text) l = tt
short_base (dns_base text) l = tt
short_base (directory_base name) l = short_name name l
short_base (ip_base subnet) l = tt

abbrev subtree_size : Base → ℕ
subtree_size b = 200 + base_size b

short_bases : (bs : List Base) → sum_by subtree_size bs < 2 ^ 60 → AllByRecursion HasShortBase bs
short_bases [] l = tt
short_bases (b ∷ bs) l =
    let both = sum_by-cons subtree_size b bs in
    (short_base b (omega arith), short_bases bs (omega arith))

pub short_subtrees : (o : Option Bases) → option_map_or bases_size o 0 < 2 ^ 60 → AllByRecursion HasShortBase (all_bases o)
short_subtrees None l = tt
short_subtrees (Some b) l = let both = sum_by-append subtree_size b.permitted b.excluded in short_bases (all_bases (Some b)) (omega arith)

-- ---- rows that certificates and requests have

pub alternative_rows : (critical : Bool) (ns : List AlternativeName) → rows_size (subject_alt_name_row critical ns) ≤ 160 + sum_by alternative_size ns
alternative_rows critical ns =
    let k = row_within (id_ce ce_subject_alt_name) critical (sequence_of general_name 0 None refl) (subject_alt_name ns) (20 + sum_by alternative_size ns) (alternatives_within ns) in
    omega arith

pub purpose_rows : (ps : List Purpose) → rows_size (ext_key_usage_row ps) ≤ 160 + sum_by purpose_size ps
purpose_rows ps =
    let k = row_within (id_ce ce_ext_key_usage) false (sequence_of object_identifier 0 None refl) (ext_key_usage ps) (20 + sum_by purpose_size ps) (purposes_within ps) in
    omega arith

pub usage_rows : (us : List KeyUsagePurpose) → rows_size (key_usage_row us) ≤ 163
usage_rows us = let k = row_within (id_ce ce_key_usage) true bit_string (key_usage us) 23 (usages_within us) in omega arith

pub ca_rows : (is_ca : IsCa) → rows_size (basic_constraints_row is_ca) ≤ 240
ca_rows is_ca = let k = row_within (id_ce ce_basic_constraints) true basic_constraints (constraints is_ca) 100 (ca_within is_ca) in omega arith
