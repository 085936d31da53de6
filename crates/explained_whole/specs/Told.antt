-- What the lines of a certificate's explanation determine, without the digest of its octets.
use Rattle.std.specs.Prelude.{◌≡◌, ℕ, List, ◌++◌, codes, Option, Some, None}
use Rattle.std.specs.List.{AllByRecursion, AllZip}
use Rattle.std.specs.Option.{IfSome}
use Rattle.asn1_core.specs.Bits.{Bits}
use Rattle.der_tree.specs.Form.{IsDerOf}
use Rattle.der_tree.specs.HasTree.{HasTree}
use Rattle.hex.specs.Hex.{IsBytes}
use Rattle.pkix_cert.specs.Certificates.{certificate}
use Rattle.pkix_cert.specs.Times.{moment_of}
use Rattle.pkix_cert.specs.declared.certificate.Certificate.{Certificate}
use Rattle.pkix_cert.specs.declared.extension.Extension.{Extension}
use Rattle.pkix_cert.specs.declared.extension.Extensions.{Extensions}
use Rattle.shelf_explain.specs.Blocks.{certificate_lines, inner_algorithm}
use Rattle.shelf_explain.specs.Digests.{fingerprint_line}
use Rattle.shelf_explain.specs.Explanation.{long_explanation, title_line}
use Rattle.shelf_explain.specs.ExtensionTexts.{contents_text, kind_of}
use Rattle.shelf_explain.specs.Keys.{algorithm_text}
use Rattle.shelf_explain.specs.Lines.{hex_text}
use Rattle.shelf_explain.specs.Names.{name_text}

abbrev pub HaveBytes : Option Bits → Type 0
HaveBytes bits = IfSome bits (λ (b : Bits). IsBytes b.bytes)

-- what each certificate that was read is: it has a DER encoding, and its octets are below 256
pub record IsRead (c : Certificate) : Type 0 where
  pub has_tree : HasTree certificate c
  pub serial : IsBytes c.tbs_certificate.serial_number
  pub key : IsBytes c.tbs_certificate.subject_public_key_info.subject_public_key.bytes
  pub issuer_id : HaveBytes c.tbs_certificate.issuer_unique_id
  pub subject_id : HaveBytes c.tbs_certificate.subject_unique_id
  pub extensions : IfSome c.tbs_certificate.extensions (λ (es : Extensions). AllByRecursion (λ (e : Extension). IsBytes e.extn_value) es.0)
  pub signature : IsBytes c.signature_value.bytes

-- the value is shown in hexadecimal digits
abbrev pub IsHex : Extension → Type 0
IsHex e = (octets : List ℕ) → contents_text (kind_of e.extn_id) octets ≡ hex_text octets

-- the same extension; of its value the same text, and the same octets where these are shown in hexadecimal digits
pub record SameExtension (e f : Extension) : Type 0 where
  pub id : e.extn_id ≡ f.extn_id
  pub critical : e.critical ≡ f.critical
  pub text : contents_text (kind_of e.extn_id) e.extn_value ≡ contents_text (kind_of f.extn_id) f.extn_value
  pub octets : IsHex e → e.extn_value ≡ f.extn_value

-- the same extensions in the same order, or none
abbrev pub SameExtensions : Option Extensions → Option Extensions → Type 0
SameExtensions None None = Unit {0}
SameExtensions (Some es) (Some fs) = AllZip SameExtension es.0 fs.0
SameExtensions None (Some fs) = ⊥
SameExtensions (Some es) None = ⊥

-- the same fields; of names and algorithms, the same texts
pub record SameFields (a b : Certificate) : Type 0 where
  pub subject : name_text a.tbs_certificate.subject ≡ name_text b.tbs_certificate.subject
  pub issuer : name_text a.tbs_certificate.issuer ≡ name_text b.tbs_certificate.issuer
  pub serial : a.tbs_certificate.serial_number ≡ b.tbs_certificate.serial_number
  pub not_before : moment_of a.tbs_certificate.validity.not_before ≡ moment_of b.tbs_certificate.validity.not_before
  pub not_after : moment_of a.tbs_certificate.validity.not_after ≡ moment_of b.tbs_certificate.validity.not_after
  pub key_algorithm : algorithm_text a.tbs_certificate.subject_public_key_info.algorithm
      ≡ algorithm_text b.tbs_certificate.subject_public_key_info.algorithm
  pub key : a.tbs_certificate.subject_public_key_info.subject_public_key ≡ b.tbs_certificate.subject_public_key_info.subject_public_key
  pub version : a.tbs_certificate.version ≡ b.tbs_certificate.version
  pub issuer_id : a.tbs_certificate.issuer_unique_id ≡ b.tbs_certificate.issuer_unique_id
  pub subject_id : a.tbs_certificate.subject_unique_id ≡ b.tbs_certificate.subject_unique_id
  pub extensions : SameExtensions a.tbs_certificate.extensions b.tbs_certificate.extensions
  -- of the algorithm within what is signed, where it is another than the signature's
  pub signed_algorithm : inner_algorithm a.tbs_certificate.signature a.signature_algorithm ≡ inner_algorithm b.tbs_certificate.signature b.signature_algorithm
  pub signature_algorithm : algorithm_text a.signature_algorithm ≡ algorithm_text b.signature_algorithm
  pub signature : a.signature_value ≡ b.signature_value

abbrev pub FieldsAreTold : Type 0
FieldsAreTold = (a b : Certificate) → IsRead a → IsRead b → certificate_lines a ≡ certificate_lines b → SameFields a b

-- the lines are what the explanation of the certificate's octets has between its title and the digest
abbrev pub LinesAreExplained : Type 0
LinesAreExplained =
    (c : Certificate) (octets : List ℕ) → IsDerOf certificate c octets
    → long_explanation (codes "CERTIFICATE") octets ≡ title_line (codes "CERTIFICATE") ++ (certificate_lines c ++ fingerprint_line octets)
