-- What a certificate's listing says, by the certificate's parts in the input.
use Rattle.std.specs.Prelude.{ℕ, List, [], ◌∷◌, ◌++◌, flat_map, codes, Option, Some, None, unwrap_or}
use Rattle.asn1_core.specs.Binds.{◌>>=◌}
use Rattle.der_tree.specs.Codec.{Codec}
use Rattle.der_tree.specs.Default.{value_or_default}
use Rattle.der_tree.specs.Element.{Element, one_element}
use Rattle.der_tree.specs.Form.{value_of}
use Rattle.der_tree.specs.Grammar.{required}
use Rattle.der_tree.specs.Optional.{next_optional}
use Rattle.der_tree.specs.PrimitiveTypes.{bit_string, integer, object_identifier}
use Rattle.der_tree.specs.Sequence.{children, node_read_of}
use Rattle.der_tree.specs.Tagging.{tagged_read_of}
use Rattle.der_tree.specs.Tags.{context, these, universal}
use Rattle.pkix_cert.specs.Algorithms.{algorithm_identifier, subject_public_key_info}
use Rattle.pkix_cert.specs.Times.{validity}
use Rattle.pkix_cert.specs.Versions.{same_version, v1, version}
use Rattle.pkix_cert.specs.Views.{CertificateParts, ExtensionParts}
use Rattle.pkix_cert.specs.declared.algorithm.SubjectPublicKeyInfo.{SubjectPublicKeyInfo}
use Rattle.pkix_cert.specs.declared.time.Validity.{Validity}
use Rattle.pkix_name.specs.Names.{name}
use Rattle.certify_core.specs.Listing.{algorithm_text, bit_string_text, criticality, hex, line, line_of, name_text, object_identifier_text, time_text, version_number, ◌⨾◌}
use Rattle.certify_core.specs.declared.listing.other_fields.OtherFields.{OtherFields}

-- ---- the fields of what is signed that are no parts of a view

abbrev pub behind_one : List Element → Option (List Element)
behind_one [] = None
behind_one (s ∷ ss) = Some ss

-- after the serial number, the signature's algorithm, the issuer, the validity, the subject and the key's info
unfoldable pub behind_key_info : List Element → Option (List Element)
behind_key_info ss = do
  a ← behind_one ss
  b ← behind_one a
  c ← behind_one b
  d ← behind_one c
  e ← behind_one d
  behind_one e

-- among the elements within what is signed: the version, before these six, and the identifiers, after them (RFC 5280,
-- 4.1)
unfoldable pub others_within : List Element → Option OtherFields
others_within ss = do
  found ← next_optional (these (context 0 ∷ [])) (node_read_of (context 0) (required version)) ss
  number ← value_or_default same_version v1 found.0
  rest ← behind_key_info found.1
  issuer ← next_optional (these (context 1 ∷ [])) (tagged_read_of (context 1) bit_string) rest
  subject ← next_optional (these (context 2 ∷ [])) (tagged_read_of (context 2) bit_string) issuer.1
  Some (record { version = number; issuer_unique_id = issuer.0; subject_unique_id = subject.0 })

-- of the octets of its element
unfoldable pub fields_in : List ℕ → Option OtherFields
fields_in tbs = do
  s ← one_element tbs
  ss ← children (universal 16) s
  others_within ss

abbrev pub other_fields : List ℕ → OtherFields
other_fields tbs = unwrap_or (fields_in tbs) (record { version = v1; issuer_unique_id = None; subject_unique_id = None })

-- ---- lines

-- the line of the value whose form the octets are, where they are one
abbrev pub value_line : {A : Type 0} → List ℕ → Codec A → (A → List ℕ) → List ℕ → List ℕ
value_line label c text octets = line_of label text (value_of c octets)

unfoldable pub validity_lines : Option Validity → List ℕ
validity_lines None = []
validity_lines (Some v) = line (codes "not-before") time_text v.not_before ++ line (codes "not-after") time_text v.not_after

unfoldable pub key_lines : Option SubjectPublicKeyInfo → List ℕ
key_lines None = []
key_lines (Some k) = line (codes "key") algorithm_text k.algorithm ++ line (codes "key-bits") bit_string_text k.subject_public_key

unfoldable pub identifier_text : Option (List ℕ) → List ℕ
identifier_text None = []
identifier_text (Some arcs) = object_identifier_text arcs

unfoldable pub extension_part_text : ExtensionParts → List ℕ
extension_part_text p = identifier_text (value_of object_identifier p.id) ++ codes " " ++ criticality p.critical ++ codes " " ++ hex p.contents

-- the lines of what the issuer signs
unfoldable pub signed_lines : CertificateParts → List ℕ
signed_lines p =
    let others = other_fields p.tbs in
    line (codes "version") version_number others.version
    ⨾ value_line (codes "serial") integer hex p.serial_number
    ⨾ value_line (codes "signature") algorithm_identifier algorithm_text p.tbs_signature
    ⨾ value_line (codes "issuer") name name_text p.issuer
    ⨾ validity_lines (value_of validity p.validity)
    ⨾ value_line (codes "subject") name name_text p.subject
    ⨾ key_lines (value_of subject_public_key_info p.key_info)
    ⨾ line_of (codes "issuer-id") bit_string_text others.issuer_unique_id
    ⨾ line_of (codes "subject-id") bit_string_text others.subject_unique_id
    ⨾ flat_map (line (codes "extension") extension_part_text) p.extensions

unfoldable pub listing_in : CertificateParts → List ℕ
listing_in p =
    signed_lines p
    ⨾ value_line (codes "signature-algorithm") algorithm_identifier algorithm_text p.signature_algorithm
    ⨾ value_line (codes "signature-bits") bit_string bit_string_text p.signature
