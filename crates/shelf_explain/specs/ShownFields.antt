-- What the explanation of a certificate contains: each field and each extension.
use Rattle.std.specs.Prelude.{ℕ, List, ◌≡◌, ◌∷◌, ◌++◌, codes, Option, Some}
use Rattle.pkix_cert.specs.declared.certificate.Certificate.{Certificate}
use Rattle.pkix_cert.specs.declared.extension.Extension.{Extension}
use Rattle.pkix_cert.specs.declared.extension.Extensions.{Extensions}
use Rattle.shelf_explain.specs.BitNames.{bits_text}
use Rattle.shelf_explain.specs.Blocks.{inner_algorithm, line_of, serial_line, signature_lines, time_text, version_text}
use Rattle.shelf_explain.specs.Digests.{fingerprint_line}
use Rattle.shelf_explain.specs.ExtensionTexts.{extension_line}
use Rattle.shelf_explain.specs.Keys.{key_lines}
use Rattle.shelf_explain.specs.Lines.{line}
use Rattle.shelf_explain.specs.Names.{name_text}

-- the part is in the text, whatever comes before and after it
abbrev pub Contains : List ℕ → List ℕ → Type 0
Contains text part = (before : List ℕ) × (after : List ℕ) × (text ≡ before ++ (part ++ after))

-- the extension is one of these
abbrev pub HasExtension : Option Extensions → Extension → Type 0
HasExtension o e = (es : Extensions) × (before : List Extension) × (after : List Extension) × (o ≡ Some es) × (es.0 ≡ before ++ (e ∷ after))

-- the lines of the fields of a certificate (RFC 5280, 4.1), and the digest of its octets
pub record ShowsFields (c : Certificate) (octets text : List ℕ) : Type 0 where
  pub subject : Contains text (line (codes "  ") (codes "subject") (name_text c.tbs_certificate.subject))
  pub issuer : Contains text (line (codes "  ") (codes "issuer") (name_text c.tbs_certificate.issuer))
  pub serial : Contains text (serial_line (codes "  ") c.tbs_certificate.serial_number)
  pub not_before : Contains text (line (codes "  ") (codes "not before") (time_text c.tbs_certificate.validity.not_before))
  pub not_after : Contains text (line (codes "  ") (codes "not after") (time_text c.tbs_certificate.validity.not_after))
  pub key : Contains text (key_lines c.tbs_certificate.subject_public_key_info)
  pub version : Contains text (line (codes "  ") (codes "version") (version_text c.tbs_certificate.version))
  pub issuer_id : Contains text (line_of (codes "issuer unique id") bits_text c.tbs_certificate.issuer_unique_id)
  pub subject_id : Contains text (line_of (codes "subject unique id") bits_text c.tbs_certificate.subject_unique_id)
  pub extensions : (e : Extension) → HasExtension c.tbs_certificate.extensions e → Contains text (extension_line (codes "    ") e)
  pub inner : Contains text (inner_algorithm c.tbs_certificate.signature c.signature_algorithm)
  pub signature : Contains text (signature_lines c.signature_algorithm c.signature_value)
  pub digest : Contains text (fingerprint_line octets)
