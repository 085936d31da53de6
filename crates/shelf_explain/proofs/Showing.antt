-- Where a part is in a text.
use Rattle.std.proofs.Common.{◌≡◌, ◌++◌, ℕ, List, [], ◌∷◌, Option, Some, codes, refl, ap, sym, ◌∙◌}
use Rattle.std.specs.List.{flat_map}
use Rattle.std.proofs.lemmas.List.{append_assoc, append-nil}
use Rattle.std.proofs.lemmas.Grind.{flat_map-append}
use Rattle.der_tree.specs.Form.{value_of}
use Rattle.pkix_cert.specs.Certificates.{certificate}
use Rattle.pkix_cert.specs.declared.certificate.Certificate.{Certificate}
use Rattle.pkix_cert.specs.declared.certificate.TbsCertificate.{TbsCertificate}
use Rattle.pkix_cert.specs.declared.extension.Extension.{Extension}
use Rattle.pkix_cert.specs.declared.extension.Extensions.{Extensions}
use Rattle.shelf_explain.specs.BitNames.{bits_text}
use Rattle.shelf_explain.specs.Blocks.{certificate_lines, inner_algorithm, line_of, names_and_times, serial_line, signature_lines, tbs_lines, time_text, titled_extensions, version_text}
use Rattle.shelf_explain.specs.Digests.{fingerprint_line}
use Rattle.shelf_explain.specs.Explanation.{block_lines, block_of, fingerprint_of, known_lines, long_explanation, title_line}
use Rattle.shelf_explain.specs.ExtensionTexts.{all_extensions, extension_line}
use Rattle.shelf_explain.specs.Keys.{key_lines}
use Rattle.shelf_explain.specs.Lines.{labelled, line}
use Rattle.shelf_explain.specs.Names.{name_text}
use Rattle.shelf_explain.specs.Partly.{lines_or_rows, read_or_rows}
use Rattle.shelf_explain.specs.Tables.{certificate_fields}
use Rattle.shelf_explain.specs.ShownFields.{Contains, HasExtension, ShowsFields}

pub same_text : (text other part : List ℕ) → text ≡ other → Contains other part → Contains text part
same_text text other part e h = (h.0, h.1, e ∙ h.2)

one_of : (f : Extension → List ℕ) (xs before after : List Extension) (x : Extension) → xs ≡ before ++ (x ∷ after) → Contains (flat_map f xs) (f x)
one_of f xs before after x e = (flat_map f before, flat_map f after, ap (flat_map f) e ∙ flat_map-append f before (x ∷ after))

pub after_front : (a b part : List ℕ) → Contains b part → Contains (a ++ b) part
after_front a b part h = (a ++ h.0, h.1, ap (λ (t : List ℕ). a ++ t) h.2 ∙ sym (append_assoc a h.0 (part ++ h.1)))

pub one_extension : (o : Option Extensions) (e : Extension) → HasExtension o e → Contains (titled_extensions o) (extension_line (codes "    ") e)
unfolding titled_extensions all_extensions labelled
one_extension o e h =
    same_text _ _ _ (ap titled_extensions h.3)
    (after_front (codes "  extensions:\n") (flat_map (extension_line (codes "    ")) h.0.0) (extension_line (codes "    ") e)
    (one_of (extension_line (codes "    ")) h.0.0 h.1 h.2 e h.4))

-- a title, the lines of a certificate, and the digest
abbrev whole : (t s i n b e k v u w x g z f : List ℕ) → List ℕ
whole t s i n b e k v u w x g z f = t ++ ((s ++ i ++ n ++ b ++ e ++ k ++ v ++ u ++ w ++ x ++ g ++ z) ++ f)

subject_in : (t s i n b e k v u w x g z f : List ℕ) → Contains (whole t s i n b e k v u w x g z f) s
subject_in t s i n b e k v u w x g z f = (t, i ++ n ++ b ++ e ++ k ++ v ++ u ++ w ++ x ++ g ++ z ++ f, simp append_assoc)

issuer_in : (t s i n b e k v u w x g z f : List ℕ) → Contains (whole t s i n b e k v u w x g z f) i
issuer_in t s i n b e k v u w x g z f = (t ++ s, n ++ b ++ e ++ k ++ v ++ u ++ w ++ x ++ g ++ z ++ f, simp append_assoc)

serial_in : (t s i n b e k v u w x g z f : List ℕ) → Contains (whole t s i n b e k v u w x g z f) n
serial_in t s i n b e k v u w x g z f = (t ++ s ++ i, b ++ e ++ k ++ v ++ u ++ w ++ x ++ g ++ z ++ f, simp append_assoc)

start_in : (t s i n b e k v u w x g z f : List ℕ) → Contains (whole t s i n b e k v u w x g z f) b
start_in t s i n b e k v u w x g z f = (t ++ s ++ i ++ n, e ++ k ++ v ++ u ++ w ++ x ++ g ++ z ++ f, simp append_assoc)

end_in : (t s i n b e k v u w x g z f : List ℕ) → Contains (whole t s i n b e k v u w x g z f) e
end_in t s i n b e k v u w x g z f = (t ++ s ++ i ++ n ++ b, k ++ v ++ u ++ w ++ x ++ g ++ z ++ f, simp append_assoc)

key_in : (t s i n b e k v u w x g z f : List ℕ) → Contains (whole t s i n b e k v u w x g z f) k
key_in t s i n b e k v u w x g z f = (t ++ s ++ i ++ n ++ b ++ e, v ++ u ++ w ++ x ++ g ++ z ++ f, simp append_assoc)

version_in : (t s i n b e k v u w x g z f : List ℕ) → Contains (whole t s i n b e k v u w x g z f) v
version_in t s i n b e k v u w x g z f = (t ++ s ++ i ++ n ++ b ++ e ++ k, u ++ w ++ x ++ g ++ z ++ f, simp append_assoc)

issuer_id_in : (t s i n b e k v u w x g z f : List ℕ) → Contains (whole t s i n b e k v u w x g z f) u
issuer_id_in t s i n b e k v u w x g z f = (t ++ s ++ i ++ n ++ b ++ e ++ k ++ v, w ++ x ++ g ++ z ++ f, simp append_assoc)

subject_id_in : (t s i n b e k v u w x g z f : List ℕ) → Contains (whole t s i n b e k v u w x g z f) w
subject_id_in t s i n b e k v u w x g z f = (t ++ s ++ i ++ n ++ b ++ e ++ k ++ v ++ u, x ++ g ++ z ++ f, simp append_assoc)

inner_in : (t s i n b e k v u w x g z f : List ℕ) → Contains (whole t s i n b e k v u w x g z f) g
inner_in t s i n b e k v u w x g z f = (t ++ s ++ i ++ n ++ b ++ e ++ k ++ v ++ u ++ w ++ x, z ++ f, simp append_assoc)

signature_in : (t s i n b e k v u w x g z f : List ℕ) → Contains (whole t s i n b e k v u w x g z f) z
signature_in t s i n b e k v u w x g z f = (t ++ s ++ i ++ n ++ b ++ e ++ k ++ v ++ u ++ w ++ x ++ g, f, simp append_assoc)

digest_in : (t s i n b e k v u w x g z f : List ℕ) → Contains (whole t s i n b e k v u w x g z f) f
digest_in t s i n b e k v u w x g z f =
    let same : whole t s i n b e k v u w x g z f ≡ (t ++ s ++ i ++ n ++ b ++ e ++ k ++ v ++ u ++ w ++ x ++ g ++ z) ++ f = simp append_assoc in (
      t ++ s ++ i ++ n ++ b ++ e ++ k ++ v ++ u ++ w ++ x ++ g ++ z,
      [],
      same ∙ ap (λ (q : List ℕ). (t ++ s ++ i ++ n ++ b ++ e ++ k ++ v ++ u ++ w ++ x ++ g ++ z) ++ q) (sym (append-nil f)),
    )

extension_in : (t s i n b e k v u w x g z f part : List ℕ) → Contains x part → Contains (whole t s i n b e k v u w x g z f) part
extension_in t s i n b e k v u w x g z f part h = (t ++ s ++ i ++ n ++ b ++ e ++ k ++ v ++ u ++ w ++ h.0, h.1 ++ g ++ z ++ f, rw h.2 (simp append_assoc))

text_is : (c : Certificate) (octets : List ℕ) → value_of certificate octets ≡ Some c
    → long_explanation (codes "CERTIFICATE") octets
    ≡ whole (title_line (codes "CERTIFICATE")) (line (codes "  ") (codes "subject") (name_text c.tbs_certificate.subject))
    (line (codes "  ") (codes "issuer") (name_text c.tbs_certificate.issuer)) (serial_line (codes "  ") c.tbs_certificate.serial_number)
    (line (codes "  ") (codes "not before") (time_text c.tbs_certificate.validity.not_before))
    (line (codes "  ") (codes "not after") (time_text c.tbs_certificate.validity.not_after)) (key_lines c.tbs_certificate.subject_public_key_info)
    (line (codes "  ") (codes "version") (version_text c.tbs_certificate.version)) (line_of (codes "issuer unique id") bits_text c.tbs_certificate.issuer_unique_id)
    (line_of (codes "subject unique id") bits_text c.tbs_certificate.subject_unique_id) (titled_extensions c.tbs_certificate.extensions)
    (inner_algorithm c.tbs_certificate.signature c.signature_algorithm) (signature_lines c.signature_algorithm c.signature_value) (fingerprint_line octets)
unfolding long_explanation block_lines block_of known_lines fingerprint_of read_or_rows lines_or_rows certificate_lines tbs_lines names_and_times
text_is c octets e =
    ap (λ (o : Option Certificate). title_line (codes "CERTIFICATE") ++ (lines_or_rows certificate_lines certificate_fields o octets ++ fingerprint_line octets)) e
    ∙ simp append_assoc

pub shows : (c : Certificate) (octets : List ℕ) → value_of certificate octets ≡ Some c → ShowsFields c octets (long_explanation (codes "CERTIFICATE") octets)
shows c octets h =
    let t : List ℕ = title_line (codes "CERTIFICATE") in
    let s : List ℕ = line (codes "  ") (codes "subject") (name_text c.tbs_certificate.subject) in
    let i : List ℕ = line (codes "  ") (codes "issuer") (name_text c.tbs_certificate.issuer) in
    let n : List ℕ = serial_line (codes "  ") c.tbs_certificate.serial_number in
    let b : List ℕ = line (codes "  ") (codes "not before") (time_text c.tbs_certificate.validity.not_before) in
    let e : List ℕ = line (codes "  ") (codes "not after") (time_text c.tbs_certificate.validity.not_after) in
    let k : List ℕ = key_lines c.tbs_certificate.subject_public_key_info in
    let v : List ℕ = line (codes "  ") (codes "version") (version_text c.tbs_certificate.version) in
    let u : List ℕ = line_of (codes "issuer unique id") bits_text c.tbs_certificate.issuer_unique_id in
    let w : List ℕ = line_of (codes "subject unique id") bits_text c.tbs_certificate.subject_unique_id in
    let x : List ℕ = titled_extensions c.tbs_certificate.extensions in
    let g : List ℕ = inner_algorithm c.tbs_certificate.signature c.signature_algorithm in
    let z : List ℕ = signature_lines c.signature_algorithm c.signature_value in
    let f : List ℕ = fingerprint_line octets in
    let text : List ℕ = long_explanation (codes "CERTIFICATE") octets in
    let all : List ℕ = whole t s i n b e k v u w x g z f in
    let is : text ≡ all = text_is c octets h in
    record {
      subject = same_text text all s is (subject_in t s i n b e k v u w x g z f);
      issuer = same_text text all i is (issuer_in t s i n b e k v u w x g z f);
      serial = same_text text all n is (serial_in t s i n b e k v u w x g z f);
      not_before = same_text text all b is (start_in t s i n b e k v u w x g z f);
      not_after = same_text text all e is (end_in t s i n b e k v u w x g z f);
      key = same_text text all k is (key_in t s i n b e k v u w x g z f);
      version = same_text text all v is (version_in t s i n b e k v u w x g z f);
      issuer_id = same_text text all u is (issuer_id_in t s i n b e k v u w x g z f);
      subject_id = same_text text all w is (subject_id_in t s i n b e k v u w x g z f);
      extensions = λ (one : Extension) (has : HasExtension c.tbs_certificate.extensions one).
          same_text text all (extension_line (codes "    ") one) is
          (extension_in t s i n b e k v u w x g z f (extension_line (codes "    ") one) (one_extension c.tbs_certificate.extensions one has));
      inner = same_text text all g is (inner_in t s i n b e k v u w x g z f);
      signature = same_text text all z is (signature_in t s i n b e k v u w x g z f);
      digest = same_text text all f is (digest_in t s i n b e k v u w x g z f);
    }
