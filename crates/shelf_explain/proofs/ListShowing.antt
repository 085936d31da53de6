-- Where the parts of a list are in its explanation.
use Rattle.std.proofs.Common.{◌≡◌, ◌++◌, ℕ, List, [], ◌∷◌, Option, Some, codes, refl, ap, sym, ◌∙◌}
use Rattle.std.specs.List.{flat_map}
use Rattle.std.proofs.lemmas.List.{append_assoc, append-nil}
use Rattle.std.proofs.lemmas.Grind.{flat_map-append}
use Rattle.der_tree.specs.Form.{value_of}
use Rattle.pkix_cert.specs.Revocations.{certificate_list}
use Rattle.pkix_cert.specs.declared.extension.Extension.{Extension}
use Rattle.pkix_cert.specs.declared.revocation.CertificateList.{CertificateList}
use Rattle.pkix_cert.specs.declared.revocation.RevokedCertificate.{RevokedCertificate}
use Rattle.pkix_cert.specs.declared.revocation.TbsCertList.{TbsCertList}
use Rattle.shelf_explain.specs.Blocks.{inner_algorithm, line_of, signature_lines, time_text, titled_extensions, version_text}
use Rattle.shelf_explain.specs.Digests.{fingerprint_line}
use Rattle.shelf_explain.specs.Explanation.{block_lines, block_of, fingerprint_of, known_lines, long_explanation, title_line}
use Rattle.shelf_explain.specs.ExtensionTexts.{extension_line}
use Rattle.shelf_explain.specs.Lines.{line}
use Rattle.shelf_explain.specs.Lists.{all_entries, entries_lines, entry_lines, list_lines, tbs_list_lines, times_lines}
use Rattle.shelf_explain.specs.Names.{name_text}
use Rattle.shelf_explain.specs.Partly.{lines_or_rows, read_or_rows}
use Rattle.shelf_explain.specs.ShownFields.{Contains, HasExtension}
use Rattle.shelf_explain.specs.ShownLists.{HasEntry, ShowsList}
use Rattle.shelf_explain.specs.Tables.{list_fields}
use Rattle.shelf_explain.proofs.Showing.{after_front, one_extension, same_text}

itself : (a : List ℕ) → Contains a a
itself a = ([], [], sym (append-nil a))

in_first : (a b part : List ℕ) → Contains a part → Contains (a ++ b) part
in_first a b part h =
    (h.0, h.1 ++ b, ap (λ (t : List ℕ). t ++ b) h.2 ∙ append_assoc h.0 (part ++ h.1) b ∙ ap (λ (t : List ℕ). h.0 ++ t) (append_assoc part h.1 b))

entry_in : (es : List RevokedCertificate) (e : RevokedCertificate) → HasEntry es e → Contains (entries_lines es) (entry_lines e)
unfolding entries_lines all_entries
entry_in es e h =
    after_front _ (flat_map entry_lines es) _
    (flat_map entry_lines h.0, flat_map entry_lines h.1, ap (flat_map entry_lines) h.2 ∙ flat_map-append entry_lines h.0 (e ∷ h.1))

-- the lines of what is signed, the inner algorithm, and the signature
in_list : (l : CertificateList) (part : List ℕ) → Contains (tbs_list_lines l.tbs_cert_list) part → Contains (list_lines l) part
unfolding list_lines
in_list l part h = in_first _ _ part (in_first _ _ part h)

in_times : (l : CertificateList) (part : List ℕ) → Contains (times_lines l.tbs_cert_list) part → Contains (list_lines l) part
unfolding tbs_list_lines
in_times l part h = in_list l part (in_first _ _ part (in_first _ _ part h))

issuer_in : (l : CertificateList) → Contains (times_lines l.tbs_cert_list) (line (codes "  ") (codes "issuer") (name_text l.tbs_cert_list.issuer))
unfolding times_lines
issuer_in l = in_first _ _ _ (in_first _ _ _ (in_first _ _ _ (itself _)))

this_in : (l : CertificateList) → Contains (times_lines l.tbs_cert_list) (line (codes "  ") (codes "this update") (time_text l.tbs_cert_list.this_update))
unfolding times_lines
this_in l = in_first _ _ _ (in_first _ _ _ (after_front _ _ _ (itself _)))

next_in : (l : CertificateList) → Contains (times_lines l.tbs_cert_list) (line_of (codes "next update") time_text l.tbs_cert_list.next_update)
unfolding times_lines
next_in l = in_first _ _ _ (after_front _ _ _ (itself _))

version_in : (l : CertificateList) → Contains (times_lines l.tbs_cert_list) (line_of (codes "version") version_text l.tbs_cert_list.version)
unfolding times_lines
version_in l = after_front _ _ _ (itself _)

extension_in : (l : CertificateList) (e : Extension) → HasExtension l.tbs_cert_list.crl_extensions e → Contains (list_lines l) (extension_line (codes "    ") e)
unfolding tbs_list_lines
extension_in l e h = in_list l _ (in_first _ _ _ (after_front _ _ _ (one_extension l.tbs_cert_list.crl_extensions e h)))

entries_in : (l : CertificateList) (e : RevokedCertificate) → HasEntry l.tbs_cert_list.revoked_certificates e → Contains (list_lines l) (entry_lines e)
unfolding tbs_list_lines
entries_in l e h = in_list l _ (after_front _ _ _ (entry_in l.tbs_cert_list.revoked_certificates e h))

inner_in : (l : CertificateList) → Contains (list_lines l) (inner_algorithm l.tbs_cert_list.signature l.signature_algorithm)
unfolding list_lines
inner_in l = in_first _ _ _ (after_front _ _ _ (itself _))

signature_in : (l : CertificateList) → Contains (list_lines l) (signature_lines l.signature_algorithm l.signature)
unfolding list_lines
signature_in l = after_front _ _ _ (itself _)

text_is : (l : CertificateList) (octets : List ℕ) → value_of certificate_list octets ≡ Some l
    → long_explanation (codes "X509 CRL") octets ≡ title_line (codes "X509 CRL") ++ (list_lines l ++ fingerprint_line octets)
unfolding long_explanation block_lines block_of known_lines fingerprint_of read_or_rows lines_or_rows
text_is l octets e =
    ap (λ (o : Option CertificateList). title_line (codes "X509 CRL") ++ (lines_or_rows list_lines list_fields o octets ++ fingerprint_line octets)) e

in_text : (l : CertificateList) (octets part : List ℕ) → value_of certificate_list octets ≡ Some l → Contains (list_lines l) part
    → Contains (long_explanation (codes "X509 CRL") octets) part
in_text l octets part e h = same_text _ _ _ (text_is l octets e) (after_front (title_line (codes "X509 CRL")) _ part (in_first _ _ part h))

pub shows_list : (l : CertificateList) (octets : List ℕ) → value_of certificate_list octets ≡ Some l
    → ShowsList l octets (long_explanation (codes "X509 CRL") octets)
shows_list l octets h = record {
  issuer = in_text l octets _ h (in_times l _ (issuer_in l));
  this_update = in_text l octets _ h (in_times l _ (this_in l));
  next_update = in_text l octets _ h (in_times l _ (next_in l));
  version = in_text l octets _ h (in_times l _ (version_in l));
  extensions = λ (e : Extension) (has : HasExtension l.tbs_cert_list.crl_extensions e). in_text l octets _ h (extension_in l e has);
  entries = λ (e : RevokedCertificate) (has : HasEntry l.tbs_cert_list.revoked_certificates e). in_text l octets _ h (entries_in l e has);
  inner = in_text l octets _ h (inner_in l);
  signature = in_text l octets _ h (signature_in l);
  digest = same_text _ _ _ (text_is l octets h) (after_front (title_line (codes "X509 CRL")) _ _ (after_front _ _ _ (itself _)));
}
