-- The message of an attribute certificate exists.
use Rattle.std.specs.Prelude.{◌≡◌, ℕ, ◌+◌, ◌*◌, ◌≤◌, Bool, true, false, cond, not, List, [], ◌∷◌, length, map, Option, Some, None, Ok, unwrap_or, refl}
use Rattle.std.specs.List.{AllZip, list_all, sum_by}
use Rattle.std.specs.Option.{IfSome, option_map}
use Rattle.std.proofs.Common.{arith, ap, subst, sym, ◌∙◌}
use Rattle.std.proofs.lemmas.List.{length-append}
use Rattle.std.proofs.lemmas.List.Sums.{sum_by-cons}
use Rattle.asn1_core.specs.Arcs.{is_oid}
use Rattle.asn1_core.specs.Binds.{and_true, some_is}
use Rattle.asn1_core.specs.Bits.{Bits, bits}
use Rattle.asn1_core.specs.Twos.{unsigned}
use Rattle.der_tree.specs.AnyElement.{is_one}
use Rattle.der_tree.specs.Grammar.{any, implicitly, optional, required, sequence_of, set_of, ◌&◌}
use Rattle.der_tree.specs.PrimitiveTypes.{bit_string, generalized_time, integer}
use Rattle.der_tree.specs.Results.{ok_then}
use Rattle.der_tree.specs.SequenceOf.{each_put, is_within, list_put}
use Rattle.der_tree.specs.SetOf.{ascend, kept_order, set_put}
use Rattle.der_tree.specs.Tags.{context, universal}
use Rattle.der_tree.specs.Tree.{PlainTree, leaf, node, raw, row}
use Rattle.der_tree.specs.TreeBytes.{bytes, made, row_bytes}
use Rattle.der_tree.specs.TreeElement.{elements_of}
use Rattle.der_tree.specs.declared.error.EncodeError.TheVariants.{NotOneElement, SizeOutOfRange}
use Rattle.der_tree.specs.laws.Results.{ok_chosen, ok_is, ok_kept, ok_then_ok, some_there}
use Rattle.der_tree.proofs.ShortTrees.{contents_within, row_tags_fit}
use Rattle.der_tree.proofs.Writing.{bytes_are}
use Rattle.pkix_attr.specs.Certificates.{attribute_certificate, attribute_certificate_fields, attribute_certificate_info, attribute_certificate_info_fields}
use Rattle.pkix_attr.specs.Certificates.{attribute_certificate_validity_period, attribute_certificate_validity_period_fields, attribute_certificate_version}
use Rattle.pkix_attr.specs.Digests.{object_digest_info}
use Rattle.pkix_attr.specs.Holders.{holder, holder_fields, issuer as issuer_codec, issuer_serial, issuer_serial_fields, v2_form, v2_form_fields}
use Rattle.pkix_attr.specs.declared.certificate.AttributeCertificate.{AttributeCertificate}
use Rattle.pkix_attr.specs.declared.certificate.AttributeCertificateInfo.{AttributeCertificateInfo}
use Rattle.pkix_attr.specs.declared.certificate.AttributeCertificateValidityPeriod.{AttributeCertificateValidityPeriod}
use Rattle.pkix_attr.specs.declared.certificate.AttributeCertificateVersion.{AttributeCertificateVersion}
use Rattle.pkix_attr.specs.declared.holder.Holder.{Holder}
use Rattle.pkix_attr.specs.declared.holder.Issuer.{Issuer}
use Rattle.pkix_attr.specs.declared.holder.V2Form.{V2Form}
use Rattle.pkix_cert.specs.Algorithms.{algorithm_identifier}
use Rattle.pkix_cert.specs.ExtensionIds.{ce_authority_key_identifier, id_ce}
use Rattle.pkix_cert.specs.Extensions.{extensions}
use Rattle.pkix_cert.specs.KeyIdentifiers.{authority_key_identifier}
use Rattle.pkix_cert.specs.declared.algorithm.AlgorithmIdentifier.{AlgorithmIdentifier}
use Rattle.pkix_cert.specs.declared.extension.Extensions.{Extensions}
use Rattle.pkix_name.specs.GeneralNames.{general_name}
use Rattle.pkix_name.specs.Names.{attribute, attribute_fields, name as name_codec}
use Rattle.pkix_name.specs.declared.general_name.GeneralName.{GeneralName}
use Rattle.pkix_name.specs.declared.general_name.GeneralName.TheVariants.{DirectoryName}
use Rattle.pkix_name.specs.declared.name.Attribute.{Attribute as AttributeValue}
use Rattle.pkix_name.specs.declared.name.Name.{Name}
use Rattle.rcgen_certificate.specs.ExtensionRows.{IsField}
use Rattle.rcgen_certificate.specs.Issuers.{IssuerView}
use Rattle.rcgen_certificate.specs.KeyIdentifiers.{authority_key_if}
use Rattle.rcgen_certificate.specs.NameValues.{has_types, name_value}
use Rattle.rcgen_certificate.specs.Requests.{Given, values_of}
use Rattle.rcgen_certificate.proofs.ListTrees.{TreesOf, more_trees, no_trees}
use Rattle.rcgen_certificate.proofs.RelativeNames.{contents_there}
use Rattle.rcgen_certificate.proofs.Requests.{values_are}
use Rattle.rcgen_certificate.proofs.Trees.{TreeOf}
use Rattle.rcgen_sign.specs.Keys.{Key}
use Rattle.attr_issue.specs.AttributeCauses.{AttributeCause, first_attribute_cause, has_set, has_type}
use Rattle.attr_issue.specs.AttributeCertificateView.{AttributeCertificateView}
use Rattle.attr_issue.specs.AttributeCertificates.{IsAttributeInfo, attribute_extension_rows, attribute_of, base_certificate, directory_name, holder_value, issuer_value, v2}
use Rattle.attr_issue.specs.AttributeTable.{AttributeCertificateFitsIn64Bits, IsAttributeIssuedWith}
use Rattle.attr_issue.proofs.AttributeCauses.{none_of_all}
use Rattle.attr_issue.proofs.AttributeTableMet.{met}
use Rattle.shelf_fault.specs.declared.fault.Fault.TheVariants.{Issuer as OfIssuer}
use Rattle.shelf_fault.specs.declared.fault.IssuerFault.TheVariants.{NoDigitalSignature}
use Rattle.shelf_job.specs.Issuers.{certified, signs_digitally, with_key}
use Rattle.shelf_job.specs.Jobs.{attribute_issuer, attribute_issuer_in, no_attribute_cause}
use Rattle.shelf_keys.specs.Refusing.{refuse}
use Rattle.outcomes.specs.Attributes.{AttributeCertificatesHaveMessages, given_size}
use Rattle.outcomes.specs.PartSizes.{name_size}
use Rattle.outcomes.proofs.Civil.{each_is}
use Rattle.outcomes.proofs.Issuers.{read_there}
use Rattle.outcomes.proofs.Parts.{name_within}
use Rattle.outcomes.proofs.Requests.{attribute_within, value_size}
use Rattle.outcomes.proofs.Rows.{algorithm_within, field_within, general_within, number_within, row_within, rows_size}
use Rattle.outcomes.proofs.Shorts.{short_if, short_name}
use Rattle.outcomes.proofs.Signed.{authority_if}
use Rattle.outcomes.proofs.Views.{IsSmall, ok_same, short_of, small_there, then_ok}
use Rattle.outcomes.proofs.Within.{FieldsWithin, Within, bits_within, field, field_if, fields_both, in_explicit, in_implicit, in_list, in_sequence, widened}

-- ---- the attributes that are given

-- the trees of a set of elements as they are: their tags fit, and they have the octets of the elements
record AreRaw (vs : List (List ℕ)) (ts : List PlainTree) : Type 0 where
  tags : row_tags_fit (row ts) ≡ true
  size : sum_by (λ (b : List ℕ). length b) vs ≤ length (row_bytes (row ts))

raws : (vs : List (List ℕ)) (ts : List PlainTree) → each_put any vs ≡ Ok ts → AreRaw vs ts
raws [] ts e = subst (AreRaw []) (ok_is [] ts e) (record { tags = refl; size = omega arith })
raws (v ∷ vs) ts e =
    let y = ok_then_ok (any.tree_of v) (λ t. ok_then (each_put any vs) (λ r. Ok (t ∷ r))) ts e in
    let z = ok_then_ok (each_put any vs) (λ r. Ok (y.0 ∷ r)) ts y.2 in
    let same : raw v ≡ y.0 = (ok_chosen (is_one v) (raw v) y.0 NotOneElement y.1).1 in
    let rest = raws vs z.0 z.1 in
    let below = rest.size in
    let one : AreRaw (v ∷ vs) (raw v ∷ z.0) = record {
      tags = rest.tags;
      size = omega (arith, sum_by-cons (λ (b : List ℕ). length b) v vs, length-append v (row_bytes (row z.0)));
    } in
    subst (AreRaw (v ∷ vs)) (ap (λ (t : PlainTree). t ∷ z.0) same ∙ ok_is (y.0 ∷ z.0) ts z.2) one

-- a set that has a tree
record HasSet (vs : List (List ℕ)) (t : PlainTree) : Type 0 where
  tree : TreeOf (set_of any 0 None [] refl) vs
  size : sum_by (λ (b : List ℕ). length b) vs ≤ length (bytes t)

set_there : (vs : List (List ℕ)) (t : PlainTree) → (set_of any 0 None [] refl).tree_of vs ≡ Ok t → HasSet vs t
set_there vs t e =
    let x = ok_then_ok (set_put any 0 None vs) (λ ts. Ok (node (universal 17) (row ts))) t e in
    let y = ok_then_ok (list_put any 0 None vs) kept_order x.0 x.1 in
    let k = ok_kept (is_within 0 None (length vs)) (each_put any vs) y.0 SizeOutOfRange y.1 in
    let kept = (ok_chosen (ascend (elements_of y.0)) y.0 x.0 SizeOutOfRange y.2).1 in
    let r = subst (AreRaw vs) kept (raws vs y.0 k.1) in
    let size = r.size in
    let same = ok_is (node (universal 17) (row x.0)) t x.2 in
    record {
      tree = record { tree = node (universal 17) (row x.0); is_tree = e ∙ ap (λ (u : PlainTree). Ok u) (sym same); tags = r.tags };
      size = subst (λ (u : PlainTree). sum_by (λ (b : List ℕ). length b) vs ≤ length (bytes u)) same
          (omega (arith, contents_within (made (universal 17) true (row_bytes (row x.0)))));
    }

attribute_tree : (arcs : List ℕ) (vs : List (List ℕ)) → is_oid arcs ≡ true → TreeOf (set_of any 0 None [] refl) vs
    → TreeOf attribute (record { attr_type = arcs; values = vs })
unfolding attribute_fields
attribute_tree arcs vs h set =
    let o = contents_there arcs h in
    record {
      tree = node (universal 16) (row (leaf (universal 6) o.0 ∷ set.tree ∷ []));
      is_tree = rw (o.1, set.is_tree) refl;
      tags = rw set.tags refl;
    }

record HasGiven (g : Given) : Type 0 where
  tree : TreeOf attribute (attribute_of g)
  size : value_size (attribute_of g) ≤ given_size g

given_there : (g : Given) → has_type g ≡ true → has_set g ≡ true → HasGiven g
given_there g t h =
    let x = some_there (values_of g.values) h in
    let f = ((values_are g.values x.0).0 x.1).form in
    let set = set_there x.0 f.0 f.2 in
    let size = set.size in
    let octets : length g.values ≡ length (bytes f.0) = ap length (f.4 ∙ sym (bytes_are f.0 f.1 f.3)) in
    let values : (attribute_of g).values ≡ x.0 = ap (λ (o : Option (List (List ℕ))). unwrap_or o []) x.1 in
    record {
      tree = subst (λ (vs : List (List ℕ)). TreeOf attribute (record { attr_type = g.oid; values = vs })) (sym values) (attribute_tree g.oid x.0 t set.tree);
      size = subst (λ (vs : List (List ℕ)). 60 + 10 * length g.oid + sum_by (λ (b : List ℕ). length b) vs ≤ given_size g) (sym values) (omega arith);
    }

all_given : (gs : List Given) → list_all has_type gs ≡ true → list_all has_set gs ≡ true → TreesOf attribute (map attribute_of gs)
all_given [] t h = no_trees attribute
all_given (g ∷ gs) t h =
    let ts = and_true (has_type g) (list_all has_type gs) t in
    let hs = and_true (has_set g) (list_all has_set gs) h in
    more_trees attribute (attribute_of g) (map attribute_of gs) (given_there g ts.0 hs.0).tree (all_given gs ts.1 hs.1)

-- an attribute, and the one that it was made of
abbrev IsOf : Given → AttributeValue → Type 0
IsOf g v = (v ≡ attribute_of g) × HasGiven g

all_of : (gs : List Given) → list_all has_type gs ≡ true → list_all has_set gs ≡ true → AllZip IsOf gs (map attribute_of gs)
all_of [] t h = tt
all_of (g ∷ gs) t h =
    let ts = and_true (has_type g) (list_all has_type gs) t in
    let hs = and_true (has_set g) (list_all has_set gs) h in
    ((refl, given_there g ts.0 hs.0), all_of gs ts.1 hs.1)

one_within : (g : Given) (v : AttributeValue) → IsOf g v → Within attribute v (given_size g)
one_within g v h =
    subst (λ (x : AttributeValue). Within attribute x (given_size g)) (sym h.0)
    (widened attribute (attribute_of g) (value_size (attribute_of g)) (given_size g) h.1.size (attribute_within (attribute_of g)))

attributes_within : (gs : List Given) → list_all has_type gs ≡ true → list_all has_set gs ≡ true
    → Within (sequence_of attribute 0 None refl) (map attribute_of gs) (20 + sum_by given_size gs)
attributes_within gs t h = in_list attribute 0 None refl IsOf given_size one_within gs (map attribute_of gs) (all_of gs t h)

-- ---- the holder and the issuer

directory_within : (n : Name) (k : ℕ) → Within name_codec n k → Within general_name (DirectoryName n) (20 + k)
directory_within n k h t e = in_explicit (context 4) name_codec n k h t e

names_within : (n : Name) (k : ℕ) → Within name_codec n k → Within (sequence_of general_name 0 None refl) (directory_name n) (60 + k)
names_within n k h t e =
    let one = sum_by-cons (λ (u : Unit {0}). 20 + k) tt [] in
    let l = in_list general_name 0 None refl (λ (u : Unit {0}) (v : GeneralName). v ≡ DirectoryName n) (λ (u : Unit {0}). 20 + k)
    (λ u v p. subst (λ (w : GeneralName). Within general_name w (20 + k)) (sym p) (directory_within n k h)) (tt ∷ []) (directory_name n) (refl, tt) t e in
    omega arith

holder_within : (serial : List ℕ) (n : Name) → Within holder (holder_value serial n) (300 + length serial + name_size n)
unfolding holder_fields issuer_serial_fields
holder_within serial n t e =
    let k = name_size n in
    let m = length serial in
    let i0 = field (sequence_of general_name 0 None refl) (directory_name n) (60 + k) (names_within n k (name_within n)) in
    let i1 = field integer (unsigned serial) (21 + m) (number_within serial) in
    let i2 = field_if bit_string None 0 tt in
    let two = fields_both (required integer) (optional bit_string) (unsigned serial) None (21 + m) 0 i1 i2 in
    let three = fields_both (required (sequence_of general_name 0 None refl)) (required integer & optional bit_string) (directory_name n) (unsigned serial, None)
    (60 + k) (21 + m + 0) i0 two in
    let base = in_sequence (universal 16) issuer_serial_fields (base_certificate serial n) (60 + k + (21 + m + 0)) three in
    let f0 = implicitly (context 0) issuer_serial refl in
    let f1 = implicitly (context 1) (sequence_of general_name 0 None refl) refl in
    let f2 = implicitly (context 2) object_digest_info refl in
    let own = field_if f0 (Some (base_certificate serial n)) (20 + (20 + (60 + k + (21 + m + 0))))
    (in_implicit (context 0) issuer_serial refl (base_certificate serial n) (20 + (60 + k + (21 + m + 0))) base) in
    let rest = fields_both (optional f1) (optional f2) None None 0 0 (field_if f1 None 0 tt) (field_if f2 None 0 tt) in
    let all = fields_both (optional f0) (optional f1 & optional f2) (Some (base_certificate serial n)) (None, None) (20 + (20 + (60 + k + (21 + m + 0)))) 0 own rest in
    let whole = in_sequence (universal 16) holder_fields (holder_value serial n) (20 + (20 + (60 + k + (21 + m + 0))) + 0) all t e in
    omega arith

abbrev form_value : Name → V2Form
form_value n = record { issuer_name = Some (directory_name n); base_certificate_id = None; object_digest_info = None }

form_within : (n : Name) (k : ℕ) → Within name_codec n k → Within v2_form (form_value n) (80 + k)
unfolding v2_form_fields
form_within n k h t e =
    let f0 = sequence_of general_name 0 None refl in
    let f1 = implicitly (context 0) issuer_serial refl in
    let f2 = implicitly (context 1) object_digest_info refl in
    let own = field_if f0 (Some (directory_name n)) (60 + k) (names_within n k h) in
    let rest = fields_both (optional f1) (optional f2) None None 0 0 (field_if f1 None 0 tt) (field_if f2 None 0 tt) in
    let all = fields_both (optional f0) (optional f1 & optional f2) (Some (directory_name n)) (None, None) (60 + k) 0 own rest in
    let whole = in_sequence (universal 16) v2_form_fields (form_value n) (60 + k + 0) all t e in
    omega arith

issuer_within : (n : Name) (k : ℕ) → Within name_codec n k → Within issuer_codec (issuer_value n) (100 + k)
issuer_within n k h t e = let w = in_implicit (context 0) v2_form refl (form_value n) (80 + k) (form_within n k h) t e in omega arith

-- ---- what is signed

period_within : (v : AttributeCertificateValidityPeriod) → Within attribute_certificate_validity_period v 110
unfolding attribute_certificate_validity_period_fields
period_within v t e =
    let both = fields_both (required generalized_time) (required generalized_time) v.not_before v.not_after 45 45
    (field generalized_time v.not_before 45 (general_within v.not_before)) (field generalized_time v.not_after 45 (general_within v.not_after)) in
    let whole = in_sequence (universal 16) attribute_certificate_validity_period_fields v 90 both t e in
    omega arith

version_within : Within attribute_certificate_version v2 30
version_within t e = let k = number_within (1 ∷ []) t e in omega arith

rows_within : (p : AttributeCertificateView) (i : IssuerView) (n : ℕ) → length i.key_identifier ≤ 20 + n → rows_size (attribute_extension_rows p i) ≤ 300 + n
rows_within p i n l =
    let k = row_within (id_ce ce_authority_key_identifier) false authority_key_identifier (authority_key_if p.use_authority_key_identifier_extension i.key_identifier)
    (60 + length i.key_identifier) (authority_if p.use_authority_key_identifier_extension i.key_identifier) in
    omega arith

field_bound : (p : AttributeCertificateView) (i : IssuerView) (n : ℕ) (o : Option Extensions) → length i.key_identifier ≤ 20 + n
    → IsField (attribute_extension_rows p i) o → IfSome o (λ x. Within extensions x (320 + n))
field_bound p i n None l h = tt
field_bound p i n (Some x) l h = λ t e. let b = field_within (attribute_extension_rows p i) (Some x) h t e in omega (arith, rows_within p i n l)

-- an issuer's value is that of its name
issuer_of : (o : Option Name) (v : Issuer) (n : ℕ) → option_map issuer_value o ≡ Some v → IfSome o (λ x. Within name_codec x n) → Within issuer_codec v (100 + n)
issuer_of None v n e h = absurd cc
issuer_of (Some x) v n e h = subst (λ (y : Issuer). Within issuer_codec y (100 + n)) (some_is (issuer_value x) v e) (issuer_within x n h)

holder_of : (b : Bool) (serial : List ℕ) (x : Name) (v : Holder) → option_map (holder_value serial) (cond b (Some x) None) ≡ Some v
    → Within holder v (300 + length serial + name_size x)
holder_of true serial x v e = subst (λ (y : Holder). Within holder y (300 + length serial + name_size x)) (some_is (holder_value serial x) v e) (holder_within serial x)
holder_of false serial x v e = absurd cc

abbrev info_bound : AttributeCertificateView → ℕ → ℕ
info_bound p n = 2000 + name_size (name_value p.holder_issuer) + length p.holder_serial + length p.serial_number + sum_by given_size p.attributes + 2 * n

info_within : (p : AttributeCertificateView) (i : IssuerView) (n : ℕ) (v : AttributeCertificateInfo) → IsSmall n i → list_all has_type p.attributes ≡ true
    → list_all has_set p.attributes ≡ true → IsAttributeInfo p i v → Within attribute_certificate_info v (info_bound p n)
unfolding attribute_certificate_info_fields
info_within p i n v s types sets h t e =
    let a = sum_by given_size p.attributes in
    let k = name_size (name_value p.holder_issuer) in
    let m = length p.holder_serial in
    let r = length p.serial_number in
    let f0 = required attribute_certificate_version in
    let f1 = required holder in
    let f2 = required issuer_codec in
    let f3 = required algorithm_identifier in
    let f4 = required integer in
    let f5 = required attribute_certificate_validity_period in
    let f6 = required (sequence_of attribute 0 None refl) in
    let p8 = field_if extensions v.extensions (320 + n) (field_bound p i n v.extensions s.id h.extensions) in
    let p7 = fields_both (optional bit_string) (optional extensions) v.issuer_unique_id v.extensions 0 (320 + n)
    (subst (λ (o : Option Bits). FieldsWithin (optional bit_string) o 0) (sym h.issuer_unique_id) (field_if bit_string None 0 tt)) p8 in
    let g7 = optional bit_string & optional extensions in
    let v7 : Option Bits × Option Extensions = (v.issuer_unique_id, v.extensions) in
    let q = 0 + (320 + n) in
    let p6 = fields_both f6 g7 v.attributes v7 (20 + a) q (field (sequence_of attribute 0 None refl) v.attributes (20 + a)
    (subst (λ (x : List AttributeValue). Within (sequence_of attribute 0 None refl) x (20 + a)) (sym h.attributes) (attributes_within p.attributes types sets))) p7 in
    let p5 = fields_both f5 (f6 & g7) v.attr_cert_validity_period (v.attributes, v7) 110 (20 + a + q)
    (field attribute_certificate_validity_period v.attr_cert_validity_period 110 (period_within v.attr_cert_validity_period)) p6 in
    let p4 = fields_both f4 (f5 & (f6 & g7)) v.serial_number (v.attr_cert_validity_period, (v.attributes, v7)) (21 + r) (110 + (20 + a + q))
    (field integer v.serial_number (21 + r) (subst (λ (x : List ℕ). Within integer x (21 + r)) (sym h.serial_number) (number_within p.serial_number))) p5 in
    let p3 = fields_both f3 (f4 & (f5 & (f6 & g7))) v.signature (v.serial_number, (v.attr_cert_validity_period, (v.attributes, v7))) 400
    (21 + r + (110 + (20 + a + q)))
    (field algorithm_identifier v.signature 400 (subst (λ (x : AlgorithmIdentifier). Within algorithm_identifier x 400) (sym h.signature) (algorithm_within i.algorithm))) p4 in
    let p2 = fields_both f2 (f3 & (f4 & (f5 & (f6 & g7)))) v.issuer (v.signature, (v.serial_number, (v.attr_cert_validity_period, (v.attributes, v7)))) (100 + n)
    (400 + (21 + r + (110 + (20 + a + q)))) (field issuer_codec v.issuer (100 + n) (issuer_of i.name v.issuer n h.issuer_form s.name_within)) p3 in
    let p1 = fields_both f1 (f2 & (f3 & (f4 & (f5 & (f6 & g7))))) v.holder
    (v.issuer, (v.signature, (v.serial_number, (v.attr_cert_validity_period, (v.attributes, v7))))) (300 + m + k)
    (100 + n + (400 + (21 + r + (110 + (20 + a + q)))))
    (field holder v.holder (300 + m + k) (holder_of (has_types p.holder_issuer) p.holder_serial (name_value p.holder_issuer) v.holder h.holder)) p2 in
    let p0 = fields_both f0 (f1 & (f2 & (f3 & (f4 & (f5 & (f6 & g7)))))) v.version
    (v.holder, (v.issuer, (v.signature, (v.serial_number, (v.attr_cert_validity_period, (v.attributes, v7)))))) 30
    (300 + m + k + (100 + n + (400 + (21 + r + (110 + (20 + a + q))))))
    (field attribute_certificate_version v.version 30
    (subst (λ (x : AttributeCertificateVersion). Within attribute_certificate_version x 30) (sym h.version) version_within)) p1 in
    let whole = in_sequence (universal 16) attribute_certificate_info_fields v
    (30 + (300 + m + k + (100 + n + (400 + (21 + r + (110 + (20 + a + q))))))) p0 t e in
    omega arith

certificate_within : (p : AttributeCertificateView) (i : IssuerView) (n : ℕ) (signature : List ℕ) (c : AttributeCertificate) → IsSmall n i
    → list_all has_type p.attributes ≡ true → list_all has_set p.attributes ≡ true → IsAttributeIssuedWith p i signature c
    → Within attribute_certificate c (500 + info_bound p n + length signature)
unfolding attribute_certificate_fields
certificate_within p i n signature c s types sets h u e =
    let m = info_bound p n in
    let algorithm = field algorithm_identifier c.signature_algorithm 400
    (subst (λ (y : AlgorithmIdentifier). Within algorithm_identifier y 400) (sym h.issued.signature_algorithm) (algorithm_within i.algorithm)) in
    let info = field attribute_certificate_info c.info m (info_within p i n c.info s types sets h.issued.info) in
    let g = field bit_string c.signature_value (21 + length signature)
    (subst (λ (y : Bits). Within bit_string y (21 + length signature)) (sym h.signature_value) (bits_within (bits 0 signature))) in
    let two = fields_both (required algorithm_identifier) (required bit_string) c.signature_algorithm c.signature_value 400 (21 + length signature) algorithm g in
    let all = fields_both (required attribute_certificate_info) (required algorithm_identifier & required bit_string) c.info
    (c.signature_algorithm, c.signature_value) m (400 + (21 + length signature)) info two in
    let whole = in_sequence (universal 16) attribute_certificate_fields c (m + (400 + (21 + length signature))) all u e in
    omega arith

-- ---- the law

issuer_there : (issuer : List ℕ) (key : Key) (i : IssuerView) → attribute_issuer issuer key ≡ Ok i → IsSmall (length issuer) i
unfolding attribute_issuer
issuer_there issuer key i e =
    let c = then_ok (certified issuer) _ i e in
    let u = then_ok (refuse (not (signs_digitally c.0.usages)) (OfIssuer NoDigitalSignature)) _ i c.2 in
    small_there issuer c.0 key i (read_there issuer c.0 c.1) (ok_same (with_key c.0 key) i _ refl u.2)

causeless : (c : Option AttributeCause) (u : Unit {0}) → no_attribute_cause c ≡ Ok u → c ≡ None
causeless None u e = refl
causeless (Some c) u e = absurd cc

pub attribute_messages : AttributeCertificatesHaveMessages
attribute_messages a r l =
    let p : AttributeCertificateView = a.params in
    let issued = then_ok (attribute_issuer_in a) _ tt r in
    let i : IssuerView = issued.0 in
    let none = none_of_all p i.name (causeless (first_attribute_cause p i.name) tt issued.2) in
    let n = length a.issuer in
    let small = issuer_there a.issuer a.key i issued.1 in
    let id = small.id in
    let short : AttributeCertificateFitsIn64Bits p i = record {
      holder_issuer = short_name p.holder_issuer (omega arith);
      issuer_name = small.name_tree;
      authority_key_id = short_if authority_key_identifier (authority_key_if p.use_authority_key_identifier_extension i.key_identifier) (60 + length i.key_identifier)
          (authority_if p.use_authority_key_identifier_extension i.key_identifier) (omega arith);
    } in
    let c = met p i (each_is p.not_before) (each_is p.not_after) none.0 (all_given p.attributes none.0.attribute_types none.1) short [] in
    let forms = c.2 (short_of attribute_certificate c.0 (500 + info_bound p n + 0)
    (certificate_within p i n [] c.0 small none.0.attribute_types none.1 c.1) (omega arith)) in
    (forms.message, (i, issued.1, (c.0.info, c.1.issued.info, forms.message_form)))
