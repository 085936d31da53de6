-- What the parts of a certificate are that has a DER encoding.
use Rattle.std.proofs.Common.{◌≡◌, ℕ, ◌-◌, ◌%◌, ◌^◌, ◌<◌, ◌==◌, inl, inr, Bool, true, false, ◌&&◌, ◌||◌, List, [], ◌∷◌, length, slice_index, nat_lt, Option, Some, None, refl, sym, subst}
use Rattle.std.specs.List.{list_all}
use Rattle.std.specs.Option.{IfSome}
use Rattle.std.proofs.Math.Dec.{lit<}
use Rattle.std.proofs.lemmas.Bool.{eqb-true, ltb-true, or_cases}
use Rattle.asn1_core.specs.Arcs.{is_oid}
use Rattle.asn1_core.specs.Binds.{and_true, true_and}
use Rattle.asn1_core.specs.Bits.{Bits, are_bits}
use Rattle.asn1_core.specs.Twos.{is_shortest}
use Rattle.der_tree.specs.Grammar.{beq, explicitly, implicitly}
use Rattle.der_tree.specs.HasTree.{HasTree}
use Rattle.der_tree.specs.Optional.{if_there}
use Rattle.der_tree.specs.PrimitiveTypes.{bit_string, boolean, octet_string}
use Rattle.der_tree.specs.SequenceOf.{is_within}
use Rattle.der_tree.specs.Tags.{context}
use Rattle.pkix_cert.specs.Algorithms.{algorithm_identifier, subject_public_key_info, subject_public_key_info_fields}
use Rattle.pkix_cert.specs.Certificates.{certificate, certificate_fields, tbs_certificate, tbs_certificate_fields}
use Rattle.pkix_cert.specs.Extensions.{extension, extension_fields, extensions}
use Rattle.pkix_cert.specs.Times.{time, validity, validity_fields}
use Rattle.pkix_cert.specs.Versions.{raw_value, same_version, v1}
use Rattle.pkix_cert.specs.declared.certificate.Certificate.{Certificate}
use Rattle.pkix_cert.specs.declared.certificate.TbsCertificate.{TbsCertificate}
use Rattle.pkix_cert.specs.declared.extension.Extension.{Extension}
use Rattle.pkix_cert.specs.declared.extension.Extensions.{Extensions}
use Rattle.pkix_cert.specs.declared.certificate.Version.{Version}
use Rattle.pkix_name.specs.Names.{name}
use Rattle.explained_whole.proofs.Splits.{FewUnused}
use Rattle.explained_whole.specs.Told.{HaveBytes}

pub record IsEncoded (c : Certificate) : Type 0 where
  pub version : raw_value c.tbs_certificate.version < 2 ^ 64
  pub not_before : time.has_tree c.tbs_certificate.validity.not_before ≡ true
  pub not_after : time.has_tree c.tbs_certificate.validity.not_after ≡ true
  pub key : are_bits c.tbs_certificate.subject_public_key_info.subject_public_key ≡ true
  pub issuer_id : IfSome c.tbs_certificate.issuer_unique_id (λ (b : Bits). are_bits b ≡ true)
  pub subject_id : IfSome c.tbs_certificate.subject_unique_id (λ (b : Bits). are_bits b ≡ true)
  pub extensions : IfSome c.tbs_certificate.extensions (λ (es : Extensions). list_all (λ (e : Extension). is_oid e.extn_id) es.0 ≡ true)
  pub signature : are_bits c.signature_value ≡ true

-- each extension has an identifier
oids : (es : List Extension) → list_all extension.has_tree es ≡ true → list_all (λ (e : Extension). is_oid e.extn_id) es ≡ true
unfolding extension_fields
oids [] h = refl
oids (e ∷ es) h =
    let q = and_true (extension.has_tree e) (list_all extension.has_tree es) h in
    let r = and_true (is_oid e.extn_id) ((boolean.has_tree e.critical || beq e.critical false) && octet_string.has_tree e.extn_value) q.0 in
    true_and (is_oid e.extn_id) (list_all (λ (e : Extension). is_oid e.extn_id) es) r.0 (oids es q.1)

some_oids : (o : Option Extensions) → if_there (explicitly (context 3) extensions) o ≡ true → IfSome o (λ (es : Extensions). list_all (λ (e : Extension). is_oid e.extn_id) es.0 ≡ true)
some_oids None h = tt
some_oids (Some es) h = oids es.0 (and_true (is_within 1 None (length es.0)) (list_all extension.has_tree es.0) h).1

issuer_bits : (o : Option Bits) → if_there (implicitly (context 1) bit_string refl) o ≡ true → IfSome o (λ (b : Bits). are_bits b ≡ true)
issuer_bits None h = tt
issuer_bits (Some b) h = h

subject_bits : (o : Option Bits) → if_there (implicitly (context 2) bit_string refl) o ≡ true → IfSome o (λ (b : Bits). are_bits b ≡ true)
subject_bits None h = tt
subject_bits (Some b) h = h

version_below : (v : Version) → (nat_lt (raw_value v) (2 ^ 64) || same_version v v1) ≡ true → raw_value v < 2 ^ 64
version_below v h = elim (or_cases (nat_lt (raw_value v) (2 ^ 64)) (same_version v v1) h) [
  | inl a ↦ ltb-true (raw_value v) (2 ^ 64) a
  | inr b ↦ subst (λ (n : ℕ). n < 2 ^ 64) (sym (eqb-true (raw_value v) 0 b)) (lit< tt)
]

pub is_encoded : (c : Certificate) → HasTree certificate c → IsEncoded c
unfolding certificate_fields tbs_certificate_fields validity_fields subject_public_key_info_fields
is_encoded c h =
    let t : TbsCertificate = c.tbs_certificate in
    let after_key : Bool =
    if_there (implicitly (context 1) bit_string refl) t.issuer_unique_id
    && (if_there (implicitly (context 2) bit_string refl) t.subject_unique_id && if_there (explicitly (context 3) extensions) t.extensions) in
    let after_subject : Bool = subject_public_key_info.has_tree t.subject_public_key_info && after_key in
    let after_validity : Bool = name.has_tree t.subject && after_subject in
    let after_issuer : Bool = validity.has_tree t.validity && after_validity in
    let after_signature : Bool = name.has_tree t.issuer && after_issuer in
    let after_serial : Bool = algorithm_identifier.has_tree t.signature && after_signature in
    let after_version : Bool = is_shortest t.serial_number && after_serial in
    let whole = and_true (tbs_certificate.has_tree t) (algorithm_identifier.has_tree c.signature_algorithm && are_bits c.signature_value) h in
    let signed = and_true (algorithm_identifier.has_tree c.signature_algorithm) (are_bits c.signature_value) whole.1 in
    let version = and_true (nat_lt (raw_value t.version) (2 ^ 64) || same_version t.version v1) after_version whole.0 in
    let serial = and_true (is_shortest t.serial_number) after_serial version.1 in
    let algorithm = and_true (algorithm_identifier.has_tree t.signature) after_signature serial.1 in
    let issuer = and_true (name.has_tree t.issuer) after_issuer algorithm.1 in
    let times = and_true (validity.has_tree t.validity) after_validity issuer.1 in
    let both = and_true (time.has_tree t.validity.not_before) (time.has_tree t.validity.not_after) times.0 in
    let subject = and_true (name.has_tree t.subject) after_subject times.1 in
    let key = and_true (subject_public_key_info.has_tree t.subject_public_key_info) after_key subject.1 in
    let bits = and_true (algorithm_identifier.has_tree t.subject_public_key_info.algorithm) (are_bits t.subject_public_key_info.subject_public_key) key.0 in
    let issuer_id = and_true (if_there (implicitly (context 1) bit_string refl) t.issuer_unique_id)
    (if_there (implicitly (context 2) bit_string refl) t.subject_unique_id && if_there (explicitly (context 3) extensions) t.extensions) key.1 in
    let subject_id = and_true (if_there (implicitly (context 2) bit_string refl) t.subject_unique_id) (if_there (explicitly (context 3) extensions) t.extensions) issuer_id.1 in
    record {
      version = version_below t.version version.0;
      not_before = both.0;
      not_after = both.1;
      key = bits.1;
      issuer_id = issuer_bits t.issuer_unique_id issuer_id.0;
      subject_id = subject_bits t.subject_unique_id subject_id.0;
      extensions = some_oids t.extensions subject_id.1;
      signature = signed.1;
    }

-- fewer than eight bits of the last octet are unused
pub few_unused : (b : Bits) → are_bits b ≡ true → b.unused < 8
few_unused b h =
    let low = and_true (nat_lt b.unused 8 && (b.unused == 0 || nat_lt 0 (length b.bytes))) (slice_index b.bytes (length b.bytes - 1) % 2 ^ b.unused == 0) h in
    ltb-true b.unused 8 (and_true (nat_lt b.unused 8) (b.unused == 0 || nat_lt 0 (length b.bytes)) low.0).0

pub few_if_there : (o : Option Bits) → IfSome o (λ (b : Bits). are_bits b ≡ true) → HaveBytes o → FewUnused o
few_if_there None h k = tt
few_if_there (Some b) h k = (k, few_unused b h)
