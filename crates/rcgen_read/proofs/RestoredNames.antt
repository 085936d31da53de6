-- The types of a name that was read of a certificate are object identifiers.
use Rattle.std.specs.Prelude.{◌≡◌, ℕ, Bool, true, false, ◌&&◌, ◌||◌, cond, List, [], ◌∷◌, fold, length, map, None, Result, Ok, Err, is_ok}
use Rattle.std.specs.Prelude.{is_some, ok_or, refl}
use Rattle.std.specs.List.{list_all}
use Rattle.std.proofs.Common.{ap, subst, sym, ◌∙◌}
use Rattle.asn1_core.specs.Arcs.{is_oid}
use Rattle.asn1_core.specs.Binds.{and_true, bind_some, true_and}
use Rattle.der_tree.specs.AnyElement.{is_one}
use Rattle.der_tree.specs.Grammar.{explicitly}
use Rattle.der_tree.specs.HasTree.{HasTree}
use Rattle.der_tree.specs.PrimitiveTypes.{bit_string, integer}
use Rattle.der_tree.specs.SequenceOf.{is_within}
use Rattle.der_tree.specs.SetOf.{element_if, has_form, is_ascending, is_set, octets_of_form}
use Rattle.der_tree.specs.Tags.{context}
use Rattle.der_tree.specs.Tree.{PlainTree}
use Rattle.der_tree.specs.declared.error.EncodeError.{EncodeError}
use Rattle.pkix_cert.specs.Algorithms.{algorithm_identifier}
use Rattle.pkix_cert.specs.Certificates.{certificate, certificate_fields, tbs_certificate, tbs_certificate_fields}
use Rattle.pkix_cert.specs.Held.{extensions_in}
use Rattle.pkix_cert.specs.Times.{validity}
use Rattle.pkix_cert.specs.Versions.{same_version, v1, version}
use Rattle.pkix_cert.specs.declared.certificate.Certificate.{Certificate}
use Rattle.pkix_cert.specs.declared.certificate.TbsCertificate.{TbsCertificate}
use Rattle.pkix_name.specs.Names.{attribute_type_and_value, attribute_type_and_value_fields, name, name_parts, relative_distinguished_name}
use Rattle.pkix_name.specs.declared.name.AttributeTypeAndValue.{AttributeTypeAndValue}
use Rattle.pkix_name.specs.declared.name.Name.{Name}
use Rattle.pkix_cert.specs.ExtensionIds.{ce_key_usage, ce_subject_key_identifier, id_ce}
use Rattle.rcgen_certificate.specs.NameValues.{attribute, has_types, name_value, relative_name}
use Rattle.rcgen_text.specs.declared.key_usage.KeyUsagePurpose.{KeyUsagePurpose}
use Rattle.rcgen_text.specs.Causes.{not_certificate}
use Rattle.rcgen_text.specs.DnTypes.{Kind, type_arcs}
use Rattle.rcgen_text.specs.DnValues.{Text}
use Rattle.rcgen_text.specs.Names.{Entry, all_pushed, has_type, pushed}
use Rattle.rcgen_read.specs.IssuerReading.{RestoredIssuer, certificate_at, method_by, read_issuer, restored, stated_key_ids}
use Rattle.rcgen_read.specs.IssuerReading.{stated_usages, with_id}
use Rattle.rcgen_read.specs.NameReading.{read_entries, read_name}
use Rattle.rcgen_read.specs.Reading.{and_then}
use Rattle.rcgen_read.specs.ReceivedRequests.{front_at}
use Rattle.rcgen_read.proofs.EachRead.{and_then_ok, ok_is}
use Rattle.rcgen_read.proofs.NamesReadBack.{entries_written, one_of}
use Rattle.rcgen_read.proofs.ReadParts.{front_encodable}

-- ---- what has a tree

has_its_tree : (r : Result PlainTree EncodeError) → is_some (element_if r) ≡ true → is_ok r ≡ true
has_its_tree (Ok t) h = refl
has_its_tree (Err e) h = absurd cc

type_is : (a : AttributeTypeAndValue) → has_form attribute_type_and_value a ≡ true → is_oid a.attr_type ≡ true
unfolding attribute_type_and_value_fields
type_is a h =
    let has : attribute_type_and_value.has_tree a ≡ true =
    attribute_type_and_value.has_tree_is a ∙ has_its_tree (attribute_type_and_value.tree_of a) h in
    (and_true (is_oid a.attr_type) (is_one a.value) has).0

part_has_type : (e : Entry) → HasTree relative_distinguished_name (relative_name e) → is_oid (type_arcs e.dn_type) ≡ true
unfolding is_set
part_has_type e h =
    let one : List AttributeTypeAndValue = attribute e ∷ [] in
    let set = (and_true (is_within 1 None (length one)) (is_set attribute_type_and_value one) h).1 in
    let each = (and_true (list_all (has_form attribute_type_and_value) one) (is_ascending (map (octets_of_form attribute_type_and_value) one)) set).0 in
    type_is (attribute e) (and_true (has_form attribute_type_and_value (attribute e)) true each).0

parts_have_types : (es : List Entry) → list_all relative_distinguished_name.has_tree (map relative_name es) ≡ true → has_types es ≡ true
parts_have_types [] h = refl
parts_have_types (e ∷ es) h =
    let p = and_true (relative_distinguished_name.has_tree (relative_name e)) (list_all relative_distinguished_name.has_tree (map relative_name es)) h in
    true_and (is_oid (type_arcs e.dn_type)) (has_types es) (part_has_type e p.0) (parts_have_types es p.1)

name_has_types : (es : List Entry) → HasTree name (name_value es) → has_types es ≡ true
name_has_types es h =
    parts_have_types es
    (and_true (is_within 0 None (length (map relative_name es))) (list_all relative_distinguished_name.has_tree (map relative_name es)) h).1

-- ---- the subject of a certificate

sixth : (a b c d e f rest : Bool) → (a && (b && (c && (d && (e && (f && rest)))))) ≡ true → f ≡ true
sixth true true true true true true rest h = refl
sixth true true true true true false rest h = absurd cc
sixth true true true true false f rest h = absurd cc
sixth true true true false e f rest h = absurd cc
sixth true true false d e f rest h = absurd cc
sixth true false c d e f rest h = absurd cc
sixth false b c d e f rest h = absurd cc

signed_has_tree : (c : Certificate) → HasTree certificate c → HasTree tbs_certificate c.tbs_certificate
unfolding certificate_fields
signed_has_tree c h =
    (and_true (tbs_certificate.has_tree c.tbs_certificate)
    (algorithm_identifier.has_tree c.signature_algorithm && bit_string.has_tree c.signature_value) h).0

subject_has_tree : (t : TbsCertificate) → HasTree tbs_certificate t → HasTree name t.subject
unfolding tbs_certificate_fields
subject_has_tree t h =
    sixth ((explicitly (context 0) version).has_tree t.version || same_version t.version v1) (integer.has_tree t.serial_number)
    (algorithm_identifier.has_tree t.signature) (name.has_tree t.issuer) (validity.has_tree t.validity) (name.has_tree t.subject) _ h

-- ---- pushed in order

still : (n : List Entry) (t : Kind) (x : Text) → has_types n ≡ true → is_oid (type_arcs t) ≡ true → has_types (pushed n t x) ≡ true
still [] t x h k = true_and (is_oid (type_arcs t)) true k refl
still (e ∷ es) t x h k =
    let p = and_true (is_oid (type_arcs e.dn_type)) (has_types es) h in
    elim (has_type t e) as (λ b. has_types (cond b (record { dn_type = e.dn_type; text = x } ∷ es) (e ∷ pushed es t x)) ≡ true) [
      | true ↦ h
      | false ↦ true_and (is_oid (type_arcs e.dn_type)) (has_types (pushed es t x)) p.0 (still es t x p.1 k)
    ]

all_still : (n es : List Entry) → has_types n ≡ true → has_types es ≡ true → has_types (fold (λ m e. pushed m e.dn_type e.text) n es) ≡ true
all_still n [] h k = h
all_still n (e ∷ es) h k =
    let p = and_true (is_oid (type_arcs e.dn_type)) (has_types es) k in
    all_still (pushed n e.dn_type e.text) es (still n e.dn_type e.text h p.0) p.1

-- ---- the law

read_name_has_types : (n : Name) (es : List Entry) → HasTree name n → read_name n ≡ Ok es → has_types es ≡ true
read_name_has_types n es h e =
    let p = and_then_ok (read_entries (name_parts n)) (λ xs. Ok (all_pushed xs)) es e in
    let types = name_has_types p.0 (subst (λ (m : Name). HasTree name m) (sym (entries_written n p.0 p.1)) h) in
    subst (λ (xs : List Entry). has_types xs ≡ true) (ok_is (all_pushed p.0) es p.2) (all_still [] p.0 refl types)

restored_of : Certificate → List KeyUsagePurpose → List Entry → RestoredIssuer
restored_of c usages name = record {
  name = name;
  method = method_by (stated_key_ids (with_id (id_ce ce_subject_key_identifier) (extensions_in c.tbs_certificate.extensions)));
  usages = usages;
}

pub restored_name_has_types : (der : List ℕ) (r : RestoredIssuer) → read_issuer der ≡ Ok r → has_types r.name ≡ true
unfolding restored_of
restored_name_has_types der r e =
    let x = and_then_ok (ok_or (certificate_at der) not_certificate) restored r e in
    let c : Certificate = x.0 in
    let at = bind_some (front_at der) certificate.read_of c (one_of (certificate_at der) not_certificate c x.1) in
    let t = certificate.takes at.0 c (front_encodable der at.0 at.1) at.2 in
    let has : HasTree certificate c = certificate.has_tree_is c ∙ ap is_ok t.1 in
    let u = and_then_ok (stated_usages (with_id (id_ce ce_key_usage) (extensions_in c.tbs_certificate.extensions)))
    (λ usages. and_then (read_name c.tbs_certificate.subject) (λ name. Ok (restored_of c usages name))) r x.2 in
    let n = and_then_ok (read_name c.tbs_certificate.subject) (λ name. Ok (restored_of c u.0 name)) r u.2 in
    subst (λ (i : RestoredIssuer). has_types i.name ≡ true) (ok_is (restored_of c u.0 n.0) r n.2)
    (read_name_has_types c.tbs_certificate.subject n.0 (subject_has_tree c.tbs_certificate (signed_has_tree c has)) n.1)
