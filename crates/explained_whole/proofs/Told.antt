-- Certificates with the same lines have the same fields.
use Rattle.std.proofs.Common.{◌≡◌, ℕ, Bool, true, ⊎_elim, List, [], ◌∷◌, ◌++◌, codes, Option, Some, None, refl, ap, sym, ◌∙◌, arith}
use Rattle.std.specs.List.{AllByRecursion, AllZip, list_all}
use Rattle.std.specs.Option.{IfSome}
use Rattle.std.proofs.lemmas.List.{append_assoc, append_cancel_left}
use Rattle.asn1_core.specs.Arcs.{is_oid}
use Rattle.asn1_core.specs.Binds.{and_true}
use Rattle.asn1_core.specs.Bits.{Bits}
use Rattle.hex.specs.Hex.{IsBytes}
use Rattle.pkix_cert.specs.declared.algorithm.SubjectPublicKeyInfo.{SubjectPublicKeyInfo}
use Rattle.pkix_cert.specs.declared.certificate.Certificate.{Certificate}
use Rattle.pkix_cert.specs.declared.extension.Extension.{Extension}
use Rattle.pkix_cert.specs.declared.extension.Extensions.{Extensions}
use Rattle.shelf_explain.specs.BitNames.{bits_text}
use Rattle.shelf_explain.specs.Blocks.{certificate_lines, inner_algorithm, line_of, names_and_times, serial_line, signature_lines, tbs_lines, time_text, titled_extensions, version_text}
use Rattle.shelf_explain.specs.ExtensionTexts.{contents_text, kind_of}
use Rattle.shelf_explain.specs.Keys.{algorithm_text, key_lines, key_text, size_text}
use Rattle.shelf_explain.specs.Lines.{key_part, line, up_to_column}
use Rattle.shelf_explain.specs.Names.{name_text}
use Rattle.shelf_explain.specs.Numbers.{serial_text}
use Rattle.shelf_explain.specs.RsaKeys.{exponent_text, rsa_length}
use Rattle.explained_whole.proofs.Breaks.{algorithm_passes, bits_unbroken, break_wide, comma_wide, key_ends, key_unbroken, name_unbroken, no_break, no_comma, serial_unbroken, unbroken, version_unbroken}
use Rattle.explained_whole.proofs.Extensions.{SameLine, SameLines, inner_same, keys_same}
use Rattle.explained_whole.proofs.Identifiers.{identifier_same}
use Rattle.explained_whole.proofs.Leaves.{bits_same, hex_same, serial_same, time_same, time_unbroken, version_same}
use Rattle.explained_whole.proofs.Parts.{few_if_there, few_unused, is_encoded}
use Rattle.explained_whole.proofs.Splits.{end_fourth, first_line, fourth, inner_lines_end, issuer_fourth, last_two, optional_line, row, signed_end, subject_fourth}
use Rattle.explained_whole.proofs.Texts.{all_append, splits}
use Rattle.explained_whole.specs.Told.{FieldsAreTold, IsHex, SameExtension, SameExtensions}

-- the lines of the extensions, and of the algorithm within what is signed
abbrev inner_lines : Certificate → List ℕ
inner_lines c = titled_extensions c.tbs_certificate.extensions ++ inner_algorithm c.tbs_certificate.signature c.signature_algorithm

-- ---- the lines after each field, from the last field on

abbrev after_ids : Certificate → List ℕ
after_ids c =
    titled_extensions c.tbs_certificate.extensions
    ++ signed_end c.tbs_certificate.signature c.signature_algorithm (algorithm_text c.signature_algorithm) (bits_text c.signature_value)

abbrev after_issuer_id : Certificate → List ℕ
after_issuer_id c = line_of (codes "subject unique id") bits_text c.tbs_certificate.subject_unique_id ++ after_ids c

abbrev after_version : Certificate → List ℕ
after_version c = line_of (codes "issuer unique id") bits_text c.tbs_certificate.issuer_unique_id ++ after_issuer_id c

abbrev after_octets : Certificate → List ℕ
after_octets c = row (codes "version") (version_text c.tbs_certificate.version) ++ after_version c

abbrev after_key : Certificate → List ℕ
after_key c = row (codes "key octets") (bits_text c.tbs_certificate.subject_public_key_info.subject_public_key) ++ after_octets c

abbrev after_end : Certificate → List ℕ
after_end c = row (codes "key") (key_text c.tbs_certificate.subject_public_key_info) ++ after_key c

abbrev after_start : Certificate → List ℕ
after_start c = row (codes "not after") (time_text c.tbs_certificate.validity.not_after) ++ after_end c

abbrev after_serial : Certificate → List ℕ
after_serial c = row (codes "not before") (time_text c.tbs_certificate.validity.not_before) ++ after_start c

abbrev after_issuer : Certificate → List ℕ
after_issuer c = row (codes "serial") (serial_text c.tbs_certificate.serial_number) ++ after_serial c

abbrev after_subject : Certificate → List ℕ
after_subject c = row (codes "issuer") (name_text c.tbs_certificate.issuer) ++ after_issuer c

abbrev grouped : Certificate → List ℕ
grouped c = row (codes "subject") (name_text c.tbs_certificate.subject) ++ after_subject c

-- the parts of a certificate's lines, as they are grouped there and here
groups : (s i n b e k o v u w x g y z : List ℕ)
    → ((s ++ i ++ n ++ b ++ e) ++ (k ++ o) ++ v ++ u ++ w ++ x) ++ g ++ (y ++ z)
    ≡ s ++ (i ++ (n ++ (b ++ (e ++ (k ++ (o ++ (v ++ (u ++ (w ++ (x ++ (g ++ (y ++ z))))))))))))
groups s i n b e k o v u w x g y z = simp append_assoc

grouped_is : (c : Certificate) → certificate_lines c ≡ grouped c
unfolding certificate_lines tbs_lines names_and_times key_lines serial_line signature_lines
grouped_is c =
    groups (row (codes "subject") (name_text c.tbs_certificate.subject)) (row (codes "issuer") (name_text c.tbs_certificate.issuer))
    (row (codes "serial") (serial_text c.tbs_certificate.serial_number)) (row (codes "not before") (time_text c.tbs_certificate.validity.not_before))
    (row (codes "not after") (time_text c.tbs_certificate.validity.not_after)) (row (codes "key") (key_text c.tbs_certificate.subject_public_key_info))
    (row (codes "key octets") (bits_text c.tbs_certificate.subject_public_key_info.subject_public_key))
    (row (codes "version") (version_text c.tbs_certificate.version))
    (line_of (codes "issuer unique id") bits_text c.tbs_certificate.issuer_unique_id)
    (line_of (codes "subject unique id") bits_text c.tbs_certificate.subject_unique_id)
    (titled_extensions c.tbs_certificate.extensions)
    (inner_algorithm c.tbs_certificate.signature c.signature_algorithm)
    (row (codes "signature algorithm") (algorithm_text c.signature_algorithm)) (row (codes "signature") (bits_text c.signature_value))

-- ---- lines that may be left out

clash : (n m : ℕ) (text : List ℕ) → fourth text ≡ n → fourth text ≡ m → (n ≡ m → ⊥) → ⊥
clash n m text h k f = f (sym h ∙ k)

-- no line before the extensions begins as what follows them
after_ids_fourth : (c : Certificate) (n : ℕ) → (120 ≡ n → ⊥) → (105 ≡ n → ⊥) → fourth (after_ids c) ≡ n → ⊥
after_ids_fourth c n f g e =
    ⊎_elim (λ (h : fourth (after_ids c) ≡ 120). clash 120 n (after_ids c) h e f) (λ (h : fourth (after_ids c) ≡ 105). clash 105 n (after_ids c) h e g)
    (end_fourth c.tbs_certificate.extensions c.tbs_certificate.signature c.signature_algorithm (algorithm_text c.signature_algorithm) (bits_text c.signature_value))

subject_id_apart : (c : Certificate) → fourth (after_ids c) ≡ 117 → ⊥
subject_id_apart c e = after_ids_fourth c 117 (λ h. omega arith) (λ h. omega arith) e

id_apart : (o : Option Bits) (rest : List ℕ) → (fourth rest ≡ 115 → ⊥) → fourth (line_of (codes "subject unique id") bits_text o ++ rest) ≡ 115 → ⊥
unfolding line_of
id_apart None rest f e = f e
id_apart (Some b) rest f e = clash 117 115 (row (codes "subject unique id") (bits_text b) ++ rest) (subject_fourth (bits_text b) rest) e (λ h. omega arith)

issuer_id_apart : (c : Certificate) → fourth (after_issuer_id c) ≡ 115 → ⊥
issuer_id_apart c e =
    id_apart c.tbs_certificate.subject_unique_id (after_ids c) (λ (f : fourth (after_ids c) ≡ 115). after_ids_fourth c 115 (λ h. omega arith) (λ h. omega arith) f) e

-- ---- the whole

end_is : (c : Certificate) → after_ids c
    ≡ inner_lines c ++ (((key_part (codes "  ") (codes "signature algorithm") ++ algorithm_text c.signature_algorithm) ++ 10 ∷ [])
    ++ ((key_part (codes "  ") (codes "signature") ++ bits_text c.signature_value) ++ 10 ∷ []))
unfolding line
end_is c =
    sym (append_assoc (titled_extensions c.tbs_certificate.extensions) (inner_algorithm c.tbs_certificate.signature c.signature_algorithm)
    (row (codes "signature algorithm") (algorithm_text c.signature_algorithm) ++ row (codes "signature") (bits_text c.signature_value)))

signature_key_unbroken : (text : List ℕ) → unbroken text → unbroken (key_part (codes "  ") (codes "signature") ++ text)
unfolding key_part up_to_column
signature_key_unbroken text h = all_append no_break (key_part (codes "  ") (codes "signature")) text refl h

algorithm_key_unbroken : (text : List ℕ) → unbroken text → unbroken (key_part (codes "  ") (codes "signature algorithm") ++ text)
unfolding key_part up_to_column
algorithm_key_unbroken text h = all_append no_break (key_part (codes "  ") (codes "signature algorithm")) text refl h

-- the same last lines
record SameEnd (a b : Certificate) : Type 0 where
  inner : inner_lines a ≡ inner_lines b
  algorithm : algorithm_text a.signature_algorithm ≡ algorithm_text b.signature_algorithm
  signature : bits_text a.signature_value ≡ bits_text b.signature_value

same_end : (a b : Certificate) → after_ids a ≡ after_ids b → SameEnd a b
same_end a b e =
    let q = last_two (inner_lines a) (inner_lines b)
    (key_part (codes "  ") (codes "signature algorithm") ++ algorithm_text a.signature_algorithm)
    (key_part (codes "  ") (codes "signature") ++ bits_text a.signature_value)
    (key_part (codes "  ") (codes "signature algorithm") ++ algorithm_text b.signature_algorithm)
    (key_part (codes "  ") (codes "signature") ++ bits_text b.signature_value)
    (inner_lines_end a.tbs_certificate.extensions a.tbs_certificate.signature a.signature_algorithm)
    (inner_lines_end b.tbs_certificate.extensions b.tbs_certificate.signature b.signature_algorithm)
    (algorithm_key_unbroken (algorithm_text a.signature_algorithm) (algorithm_passes no_break break_wide a.signature_algorithm))
    (signature_key_unbroken (bits_text a.signature_value) (bits_unbroken a.signature_value))
    (algorithm_key_unbroken (algorithm_text b.signature_algorithm) (algorithm_passes no_break break_wide b.signature_algorithm))
    (signature_key_unbroken (bits_text b.signature_value) (bits_unbroken b.signature_value))
    (sym (end_is a) ∙ e ∙ end_is b) in
    record {
      inner = q.0;
      algorithm = append_cancel_left (key_part (codes "  ") (codes "signature algorithm")) (algorithm_text a.signature_algorithm) (algorithm_text b.signature_algorithm) q.1;
      signature = append_cancel_left (key_part (codes "  ") (codes "signature")) (bits_text a.signature_value) (bits_text b.signature_value) q.2;
    }

key_algorithm_same : (k l : SubjectPublicKeyInfo) → key_text k ≡ key_text l → algorithm_text k.algorithm ≡ algorithm_text l.algorithm
unfolding key_text
key_algorithm_same k l e =
    (splits no_comma (algorithm_text k.algorithm) (algorithm_text l.algorithm) (size_text (rsa_length k) ++ exponent_text k) (size_text (rsa_length l) ++ exponent_text l)
    (algorithm_passes no_comma comma_wide k.algorithm) (algorithm_passes no_comma comma_wide l.algorithm) (key_ends k) (key_ends l)
    (sym (append_assoc (algorithm_text k.algorithm) (size_text (rsa_length k)) (exponent_text k)) ∙ e
    ∙ append_assoc (algorithm_text l.algorithm) (size_text (rsa_length l)) (exponent_text l))).0

-- the next line
step : (key : List ℕ) (text after : Certificate → List ℕ) → ((c : Certificate) → unbroken (text c)) → (a b : Certificate)
    → row key (text a) ++ after a ≡ row key (text b) ++ after b → (text a ≡ text b) × (after a ≡ after b)
step key text after f a b e = first_line key (text a) (text b) (after a) (after b) (f a) (f b) e

abbrev are_oids : List Extension → Bool
are_oids es = list_all (λ (e : Extension). is_oid e.extn_id) es

abbrev AreOctets : List Extension → Type 0
AreOctets es = AllByRecursion (λ (e : Extension). IsBytes e.extn_value) es

octets_same : (e f : Extension) → IsBytes e.extn_value → IsBytes f.extn_value → e.extn_id ≡ f.extn_id
    → contents_text (kind_of e.extn_id) e.extn_value ≡ contents_text (kind_of f.extn_id) f.extn_value → IsHex e → e.extn_value ≡ f.extn_value
octets_same e f h k i x g =
    hex_same e.extn_value f.extn_value h k
    (sym (g e.extn_value) ∙ x ∙ ap (λ (arcs : List ℕ). contents_text (kind_of arcs) f.extn_value) (sym i) ∙ g f.extn_value)

extension_same : (e f : Extension) → is_oid e.extn_id ≡ true → is_oid f.extn_id ≡ true → IsBytes e.extn_value → IsBytes f.extn_value → SameLine e f → SameExtension e f
extension_same e f h k m n l =
    let key = keys_same e f l.key in
    let i = identifier_same e.extn_id f.extn_id h k key.0 in
    record { id = i; critical = key.1; text = l.text; octets = octets_same e f m n i l.text }

all_same : (es fs : List Extension) → are_oids es ≡ true → are_oids fs ≡ true → AreOctets es → AreOctets fs → AllZip SameLine es fs → AllZip SameExtension es fs
all_same [] [] h k m n l = tt
all_same [] (f ∷ fs) h k m n l = l
all_same (e ∷ es) [] h k m n l = l
all_same (e ∷ es) (f ∷ fs) h k m n l =
    let p = and_true (is_oid e.extn_id) (are_oids es) h in
    let q = and_true (is_oid f.extn_id) (are_oids fs) k in
    (extension_same e f p.0 q.0 m.0 n.0 l.0, all_same es fs p.1 q.1 m.1 n.1 l.1)

extensions_same : (o p : Option Extensions) → IfSome o (λ (es : Extensions). are_oids es.0 ≡ true) → IfSome p (λ (es : Extensions). are_oids es.0 ≡ true)
    → IfSome o (λ (es : Extensions). AreOctets es.0) → IfSome p (λ (es : Extensions). AreOctets es.0) → SameLines o p → SameExtensions o p
extensions_same None None h k m n l = tt
extensions_same None (Some fs) h k m n l = l
extensions_same (Some es) None h k m n l = l
extensions_same (Some es) (Some fs) h k m n l = all_same es.0 fs.0 h k m n l

pub told : FieldsAreTold
told a b h k e =
    let p = is_encoded a h.has_tree in
    let q = is_encoded b k.has_tree in
    let subject = step (codes "subject") (λ (c : Certificate). name_text c.tbs_certificate.subject) after_subject
    (λ (c : Certificate). name_unbroken c.tbs_certificate.subject) a b (sym (grouped_is a) ∙ e ∙ grouped_is b) in
    let issuer = step (codes "issuer") (λ (c : Certificate). name_text c.tbs_certificate.issuer) after_issuer
    (λ (c : Certificate). name_unbroken c.tbs_certificate.issuer) a b subject.1 in
    let serial = step (codes "serial") (λ (c : Certificate). serial_text c.tbs_certificate.serial_number) after_serial
    (λ (c : Certificate). serial_unbroken c.tbs_certificate.serial_number) a b issuer.1 in
    let start = step (codes "not before") (λ (c : Certificate). time_text c.tbs_certificate.validity.not_before) after_start
    (λ (c : Certificate). time_unbroken c.tbs_certificate.validity.not_before) a b serial.1 in
    let end = step (codes "not after") (λ (c : Certificate). time_text c.tbs_certificate.validity.not_after) after_end
    (λ (c : Certificate). time_unbroken c.tbs_certificate.validity.not_after) a b start.1 in
    let key = step (codes "key") (λ (c : Certificate). key_text c.tbs_certificate.subject_public_key_info) after_key
    (λ (c : Certificate). key_unbroken c.tbs_certificate.subject_public_key_info) a b end.1 in
    let octets = step (codes "key octets") (λ (c : Certificate). bits_text c.tbs_certificate.subject_public_key_info.subject_public_key) after_octets
    (λ (c : Certificate). bits_unbroken c.tbs_certificate.subject_public_key_info.subject_public_key) a b key.1 in
    let version = step (codes "version") (λ (c : Certificate). version_text c.tbs_certificate.version) after_version
    (λ (c : Certificate). version_unbroken c.tbs_certificate.version) a b octets.1 in
    let issuer_id = optional_line (codes "issuer unique id") 115 issuer_fourth a.tbs_certificate.issuer_unique_id b.tbs_certificate.issuer_unique_id
    (after_issuer_id a) (after_issuer_id b) (few_if_there a.tbs_certificate.issuer_unique_id p.issuer_id h.issuer_id)
    (few_if_there b.tbs_certificate.issuer_unique_id q.issuer_id k.issuer_id) (issuer_id_apart a) (issuer_id_apart b) version.1 in
    let subject_id = optional_line (codes "subject unique id") 117 subject_fourth a.tbs_certificate.subject_unique_id b.tbs_certificate.subject_unique_id
    (after_ids a) (after_ids b) (few_if_there a.tbs_certificate.subject_unique_id p.subject_id h.subject_id)
    (few_if_there b.tbs_certificate.subject_unique_id q.subject_id k.subject_id) (subject_id_apart a) (subject_id_apart b) issuer_id.1 in
    let last = same_end a b subject_id.1 in
    let inner = inner_same a.tbs_certificate.extensions b.tbs_certificate.extensions a.tbs_certificate.signature a.signature_algorithm b.tbs_certificate.signature
    b.signature_algorithm last.inner in
    record {
      subject = subject.0;
      issuer = issuer.0;
      serial = serial_same a.tbs_certificate.serial_number b.tbs_certificate.serial_number h.serial k.serial serial.0;
      not_before = time_same a.tbs_certificate.validity.not_before b.tbs_certificate.validity.not_before p.not_before q.not_before start.0;
      not_after = time_same a.tbs_certificate.validity.not_after b.tbs_certificate.validity.not_after p.not_after q.not_after end.0;
      key_algorithm = key_algorithm_same a.tbs_certificate.subject_public_key_info b.tbs_certificate.subject_public_key_info key.0;
      key = bits_same a.tbs_certificate.subject_public_key_info.subject_public_key b.tbs_certificate.subject_public_key_info.subject_public_key h.key k.key
          (few_unused a.tbs_certificate.subject_public_key_info.subject_public_key p.key)
          (few_unused b.tbs_certificate.subject_public_key_info.subject_public_key q.key) octets.0;
      version = version_same a.tbs_certificate.version b.tbs_certificate.version p.version q.version version.0;
      issuer_id = issuer_id.0;
      subject_id = subject_id.0;
      extensions = extensions_same a.tbs_certificate.extensions b.tbs_certificate.extensions p.extensions q.extensions h.extensions k.extensions inner.0;
      signed_algorithm = inner.1;
      signature_algorithm = last.algorithm;
      signature = bits_same a.signature_value b.signature_value h.signature k.signature (few_unused a.signature_value p.signature)
          (few_unused b.signature_value q.signature) last.signature;
    }
