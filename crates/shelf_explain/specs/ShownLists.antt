-- What the explanation of a certificate revocation list contains: each field, extension and entry.
use Rattle.std.specs.Prelude.{ℕ, List, ◌≡◌, ◌∷◌, ◌++◌, codes}
use Rattle.pkix_cert.specs.declared.revocation.CertificateList.{CertificateList}
use Rattle.pkix_cert.specs.declared.revocation.RevokedCertificate.{RevokedCertificate}
use Rattle.pkix_cert.specs.declared.extension.Extension.{Extension}
use Rattle.shelf_explain.specs.Blocks.{inner_algorithm, line_of, signature_lines, time_text, version_text}
use Rattle.shelf_explain.specs.Digests.{fingerprint_line}
use Rattle.shelf_explain.specs.ExtensionTexts.{extension_line}
use Rattle.shelf_explain.specs.Lines.{line}
use Rattle.shelf_explain.specs.Lists.{entry_lines}
use Rattle.shelf_explain.specs.Names.{name_text}
use Rattle.shelf_explain.specs.ShownFields.{Contains, HasExtension}

-- the entry is one of these
abbrev pub HasEntry : List RevokedCertificate → RevokedCertificate → Type 0
HasEntry es e = (before : List RevokedCertificate) × (after : List RevokedCertificate) × (es ≡ before ++ (e ∷ after))

-- the lines of the fields of a list (RFC 5280, 5.1), of its entries, and the digest of its octets
pub record ShowsList (l : CertificateList) (octets text : List ℕ) : Type 0 where
  pub issuer : Contains text (line (codes "  ") (codes "issuer") (name_text l.tbs_cert_list.issuer))
  pub this_update : Contains text (line (codes "  ") (codes "this update") (time_text l.tbs_cert_list.this_update))
  pub next_update : Contains text (line_of (codes "next update") time_text l.tbs_cert_list.next_update)
  pub version : Contains text (line_of (codes "version") version_text l.tbs_cert_list.version)
  pub extensions : (e : Extension) → HasExtension l.tbs_cert_list.crl_extensions e → Contains text (extension_line (codes "    ") e)
  pub entries : (e : RevokedCertificate) → HasEntry l.tbs_cert_list.revoked_certificates e → Contains text (entry_lines e)
  pub inner : Contains text (inner_algorithm l.tbs_cert_list.signature l.signature_algorithm)
  pub signature : Contains text (signature_lines l.signature_algorithm l.signature)
  pub digest : Contains text (fingerprint_line octets)
