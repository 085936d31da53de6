-- The lines of a certificate's parts are those of the certificate.
use Rattle.std.specs.Prelude.{◌≡◌, ℕ, List, [], ◌∷◌, ◌++◌, flat_map, codes, Option, Some, None, unwrap_or, refl}
use Rattle.std.proofs.Common.{ap, sym, ◌∙◌}
use Rattle.std.proofs.lemmas.List.{append_assoc}
use Rattle.asn1_core.specs.Binds.{bind_is, bind_some, some_is, ◌>>=◌}
use Rattle.der_tree.specs.Codec.{Codec}
use Rattle.der_tree.specs.Default.{default_with, or_default, value_or_default}
use Rattle.der_tree.specs.Element.{Element, one_element}
use Rattle.der_tree.specs.Form.{IsDerOf, value_of}
use Rattle.der_tree.specs.Grammar.{explicitly, implicitly, optional, ◌&◌}
use Rattle.der_tree.specs.Optional.{next_optional, optional_get}
use Rattle.der_tree.specs.PrimitiveTypes.{bit_string, integer, object_identifier}
use Rattle.der_tree.specs.Sequence.{at_end, children, ended}
use Rattle.der_tree.specs.Tags.{context, universal}
use Rattle.der_tree.specs.laws.Element.{one_element_again}
use Rattle.der_tree.specs.laws.TreeElement.{element_of_encodable}
use Rattle.der_tree.proofs.FormLaws.{value_again}
use Rattle.der_tree.proofs.ReadFields.{split_get}
use Rattle.pkix_cert.specs.Algorithms.{algorithm_identifier, subject_public_key_info}
use Rattle.pkix_cert.specs.Certificates.{tbs_certificate, tbs_certificate_fields}
use Rattle.pkix_cert.specs.Extensions.{extensions}
use Rattle.pkix_cert.specs.Held.{AreOfExtensions, IsOfCertificate, IsOfExtension, extensions_in}
use Rattle.pkix_cert.specs.Times.{validity}
use Rattle.pkix_cert.specs.Versions.{same_version, v1, version}
use Rattle.pkix_cert.specs.Views.{CertificateParts, ExtensionParts}
use Rattle.pkix_cert.specs.declared.algorithm.SubjectPublicKeyInfo.{SubjectPublicKeyInfo}
use Rattle.pkix_cert.specs.declared.certificate.Certificate.{Certificate}
use Rattle.pkix_cert.specs.declared.certificate.TbsCertificate.{TbsCertificate}
use Rattle.pkix_cert.specs.declared.certificate.Version.{Version}
use Rattle.pkix_cert.specs.declared.extension.Extension.{Extension}
use Rattle.pkix_cert.specs.declared.extension.Extensions.{Extensions}
use Rattle.pkix_cert.specs.declared.time.Validity.{Validity}
use Rattle.pkix_cert.proofs.SignedFields.{Signed, identifiers, last_two, of_signed, signed_fields, signed_of, six, versioned}
use Rattle.pkix_name.specs.Names.{name}
use Rattle.certify_core.specs.ListedParts.{behind_key_info, extension_part_text, fields_in, identifier_text, key_lines, listing_in, other_fields, others_within, signed_lines, validity_lines, value_line}
use Rattle.certify_core.specs.Listing.{algorithm_text, bit_string_text, extension_lines, extension_text, hex, line, line_of, listing, name_text, tbs_lines, time_text, version_number, ◌⨾◌}
use Rattle.certify_core.specs.declared.listing.other_fields.OtherFields.{OtherFields}

-- ---- lines of values

value_line_is : {A : Type 0} (label : List ℕ) (c : Codec A) (text : A → List ℕ) (v : A) (octets : List ℕ) → IsDerOf c v octets
    → value_line label c text octets ≡ line label text v
unfolding line_of
value_line_is label c text v octets h = ap (line_of label text) (value_again c octets v h)

validity_is : (v : Validity) (octets : List ℕ) → IsDerOf validity v octets
    → validity_lines (value_of validity octets) ≡ line (codes "not-before") time_text v.not_before ++ line (codes "not-after") time_text v.not_after
unfolding validity_lines
validity_is v octets h = ap validity_lines (value_again validity octets v h)

key_is : (k : SubjectPublicKeyInfo) (octets : List ℕ) → IsDerOf subject_public_key_info k octets
    → key_lines (value_of subject_public_key_info octets) ≡ line (codes "key") algorithm_text k.algorithm ++ line (codes "key-bits") bit_string_text k.subject_public_key
unfolding key_lines
key_is k octets h = ap key_lines (value_again subject_public_key_info octets k h)

-- ---- extensions

same_line : {A B : Type 0} (label : List ℕ) (f : A → List ℕ) (g : B → List ℕ) (x : A) (y : B) → f x ≡ g y → line label f x ≡ line label g y
unfolding line
same_line label f g x y e = ap (λ (t : List ℕ). label ++ codes " " ++ t ++ codes "\n") e

extension_is : (e : Extension) (p : ExtensionParts) → IsOfExtension e p → extension_part_text p ≡ extension_text e
unfolding extension_part_text extension_text identifier_text
extension_is e p h = rw (value_again object_identifier p.id e.extn_id h.id, h.critical, h.contents) refl

extensions_are : (es : List Extension) (ps : List ExtensionParts) → AreOfExtensions es ps
    → flat_map (line (codes "extension") extension_part_text) ps ≡ flat_map (line (codes "extension") extension_text) es
extensions_are [] [] h = refl
extensions_are [] (p ∷ ps) h = absurd h
extensions_are (e ∷ es) [] h = absurd h
extensions_are (e ∷ es) (p ∷ ps) h =
    let one = same_line (codes "extension") extension_part_text extension_text p e (extension_is e p h.0) in
    let more = extensions_are es ps h.1 in
    λ i. one i ++ more i

field_lines : (o : Option Extensions) → flat_map (line (codes "extension") extension_text) (extensions_in o) ≡ extension_lines o
unfolding extension_lines
field_lines None = refl
field_lines (Some es) = refl

-- ---- the fields that are no parts of a view

abbrev others_of : TbsCertificate → OtherFields
others_of t = record { version = t.version; issuer_unique_id = t.issuer_unique_id; subject_unique_id = t.subject_unique_id }

within_is : (ss : List Element) (v : Version × Signed) (rest : List Element) → (versioned & signed_fields).get ss ≡ Some (v, rest)
    → others_within ss ≡ Some (others_of (of_signed v))
unfolding behind_key_info next_optional value_or_default others_within
within_is ss v rest e =
    let y = split_get versioned signed_fields ss v rest e in
    let d = bind_some (optional_get (explicitly (context 0) version) ss) (default_with same_version v1) (v.0, y.0) y.1 in
    let w = bind_some (or_default same_version v1 d.0.0) (λ z. Some (z, d.0.1)) (v.0, y.0) d.2 in
    let same = some_is (w.0, d.0.1) (v.0, y.0) w.2 in
    let number : w.0 ≡ v.0 = ap (λ (p : Version × List Element). p.0) same in
    let mid : d.0.1 ≡ y.0 = ap (λ (p : Version × List Element). p.1) same in
    let x = six integer algorithm_identifier name validity name subject_public_key_info identifiers y.0 v.1 rest y.2 in
    let z1 = split_get (optional (implicitly (context 1) bit_string refl)) last_two x.after v.1.1.1.1.1.1.1 rest x.more in
    let z2 = split_get (optional (implicitly (context 2) bit_string refl)) (optional (explicitly (context 3) extensions)) z1.0 v.1.1.1.1.1.1.1.1 rest z1.2 in
    let goal : Option OtherFields = Some (others_of (of_signed v)) in
    bind_is (optional_get (explicitly (context 0) version) ss) _ d.0 goal d.1
    (bind_is (or_default same_version v1 d.0.0) _ w.0 goal w.1
    (bind_is (behind_key_info d.0.1) _ x.after goal (ap behind_key_info (mid ∙ x.are))
    (bind_is (optional_get (implicitly (context 1) bit_string refl) x.after) _ (v.1.1.1.1.1.1.1.0, z1.0) goal z1.1
    (bind_is (optional_get (implicitly (context 2) bit_string refl) z1.0) _ (v.1.1.1.1.1.1.1.1.0, z2.0) goal z2.1
    (ap (λ (n : Version). let o : Option OtherFields = Some (record {
      version = n;
      issuer_unique_id = v.1.1.1.1.1.1.1.0;
      subject_unique_id = v.1.1.1.1.1.1.1.1.0;
    }) in o) number)))))

read_within : (ss : List Element) (t : TbsCertificate) (rest : List Element) → tbs_certificate_fields.fields.get ss ≡ Some (t, rest)
    → others_within ss ≡ Some (others_of t)
read_within ss t rest e =
    let x = signed_of ss t rest e in
    within_is ss x.0 rest x.1 ∙ ap (λ (z : TbsCertificate). let o : Option OtherFields = Some (others_of z) in o) x.2

others_in : (s : Element) (t : TbsCertificate) → tbs_certificate.read_of s ≡ Some t → children (universal 16) s >>= others_within ≡ Some (others_of t)
others_in s t e =
    let fields = tbs_certificate_fields.fields in
    let k = bind_some (children (universal 16) s) (λ ss. fields.read ss ended) t e in
    let r = bind_some (fields.get k.0) (λ y. ended y.0 y.1) t (sym (fields.reads k.0 ended) ∙ k.2) in
    let last = bind_some (at_end r.0.1) (λ u. Some r.0.0) t r.2 in
    let same : r.0.0 ≡ t = some_is r.0.0 t last.2 in
    bind_is (children (universal 16) s) others_within k.0 (Some (others_of t)) k.1
    (read_within k.0 r.0.0 r.0.1 r.1 ∙ ap (λ (z : TbsCertificate). let o : Option OtherFields = Some (others_of z) in o) same)

others_are : (t : TbsCertificate) (tbs : List ℕ) → IsDerOf tbs_certificate t tbs → other_fields tbs ≡ others_of t
unfolding fields_in
others_are t tbs h =
    let one : one_element tbs ≡ Some h.1 = ap one_element h.4 ∙ one_element_again h.1 (element_of_encodable h.0 h.1 h.3) in
    let found : fields_in tbs ≡ Some (others_of t) =
    bind_is (one_element tbs) (λ s. children (universal 16) s >>= others_within) h.1 (Some (others_of t)) one
    (others_in h.1 t (tbs_certificate.again t h.0 h.1 h.2 h.3)) in
    ap (λ (o : Option OtherFields). unwrap_or o (record { version = v1; issuer_unique_id = None; subject_unique_id = None })) found

-- ---- all lines

pair : (a b c : List ℕ) → a ⨾ (b ++ c) ≡ a ⨾ b ⨾ c
pair a b c = sym (append_assoc a b c)

signed_are : (c : Certificate) (p : CertificateParts) → IsOfCertificate c p → signed_lines p ≡ tbs_lines c.tbs_certificate
unfolding signed_lines tbs_lines
signed_are c p h =
    let tbs = c.tbs_certificate in
    let others = others_are tbs p.tbs h.tbs in
    let serial = value_line_is (codes "serial") integer hex tbs.serial_number p.serial_number h.serial_number in
    let signature = value_line_is (codes "signature") algorithm_identifier algorithm_text tbs.signature p.tbs_signature h.tbs_signature in
    let issuer = value_line_is (codes "issuer") name name_text tbs.issuer p.issuer h.issuer in
    let valid = validity_is tbs.validity p.validity h.validity in
    let subject = value_line_is (codes "subject") name name_text tbs.subject p.subject h.subject in
    let key = key_is tbs.subject_public_key_info p.key_info h.key_info in
    let more = extensions_are (extensions_in tbs.extensions) p.extensions h.extensions ∙ field_lines tbs.extensions in
    let before : List ℕ = line (codes "not-before") time_text tbs.validity.not_before in
    let after : List ℕ = line (codes "not-after") time_text tbs.validity.not_after in
    let algorithm : List ℕ = line (codes "key") algorithm_text tbs.subject_public_key_info.algorithm in
    let bits : List ℕ = line (codes "key-bits") bit_string_text tbs.subject_public_key_info.subject_public_key in
    let issuer_id : List ℕ = line_of (codes "issuer-id") bit_string_text tbs.issuer_unique_id in
    let subject_id : List ℕ = line_of (codes "subject-id") bit_string_text tbs.subject_unique_id in
    let front : List ℕ =
    line (codes "version") version_number tbs.version
    ⨾ line (codes "serial") hex tbs.serial_number
    ⨾ line (codes "signature") algorithm_text tbs.signature
    ⨾ line (codes "issuer") name_text tbs.issuer in
    let subject_line : List ℕ = line (codes "subject") name_text tbs.subject in
    let list : List ℕ = extension_lines tbs.extensions in
    let each : signed_lines p ≡ front ⨾ (before ++ after) ⨾ subject_line ⨾ (algorithm ++ bits) ⨾ issuer_id ⨾ subject_id ⨾ list =
    λ i.
    line (codes "version") version_number (others i).version
    ⨾ serial i
    ⨾ signature i
    ⨾ issuer i
    ⨾ valid i
    ⨾ subject i
    ⨾ key i
    ⨾ line_of (codes "issuer-id") bit_string_text (others i).issuer_unique_id
    ⨾ line_of (codes "subject-id") bit_string_text (others i).subject_unique_id
    ⨾ more i in
    each ∙ ap (λ (x : List ℕ). x ⨾ subject_line ⨾ (algorithm ++ bits) ⨾ issuer_id ⨾ subject_id ⨾ list) (pair front before after)
    ∙ ap (λ (x : List ℕ). x ⨾ issuer_id ⨾ subject_id ⨾ list) (pair (front ⨾ before ⨾ after ⨾ subject_line) algorithm bits)

pub listing_is : (c : Certificate) (p : CertificateParts) → IsOfCertificate c p → listing_in p ≡ listing c
unfolding listing_in listing
listing_is c p h =
    let signed = signed_are c p h in
    let algorithm = value_line_is (codes "signature-algorithm") algorithm_identifier algorithm_text c.signature_algorithm p.signature_algorithm h.signature_algorithm in
    let bits = value_line_is (codes "signature-bits") bit_string bit_string_text c.signature_value p.signature h.signature in
    λ i. signed i ⨾ algorithm i ⨾ bits i
