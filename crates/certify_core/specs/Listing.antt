-- What a certificate contains, and what is read of an issuer, for a person to read: a line for each part.
use Rattle.std.specs.Prelude.{ℕ, Bool, true, false, List, [], ◌∷◌, ◌++◌, flat_map, codes, decimal, Option, Some, None, unwrap_or}
use Rattle.std.specs.List.{join_by}
use Rattle.hex.specs.Hex.{encode_lower}
use Rattle.asn1_core.specs.Bits.{Bits}
use Rattle.asn1_core.specs.UtcTime.{utc_time_contents}
use Rattle.asn1_core.specs.GeneralizedTime.{generalized_time_contents}
use Rattle.pkix_cert.specs.Versions.{raw_value}
use Rattle.pkix_cert.specs.declared.algorithm.AlgorithmIdentifier.{AlgorithmIdentifier}
use Rattle.pkix_cert.specs.declared.certificate.Version.{Version}
use Rattle.pkix_cert.specs.declared.certificate.TbsCertificate.{TbsCertificate}
use Rattle.pkix_cert.specs.declared.certificate.Certificate.{Certificate}
use Rattle.pkix_cert.specs.declared.extension.Extension.{Extension}
use Rattle.pkix_cert.specs.declared.extension.Extensions.{Extensions}
use Rattle.pkix_name.specs.declared.name.AttributeTypeAndValue.{AttributeTypeAndValue}
use Rattle.pkix_name.specs.declared.name.RelativeDistinguishedName.{RelativeDistinguishedName}
use Rattle.pkix_name.specs.declared.name.Name.{Name}
use Rattle.pkix_name.specs.declared.name.Name.TheVariants.{RdnSequence}
use Rattle.pkix_cert.specs.declared.time.Time.{Time}
use Rattle.pkix_cert.specs.declared.time.Time.TheVariants.{Utc, General}

-- the bytes in hexadecimal digits; a dash where there are none
unfoldable pub hex : List ℕ → List ℕ
hex [] = codes "-"
hex (b ∷ bytes) = encode_lower (b ∷ bytes)

unfoldable pub object_identifier_text : List ℕ → List ℕ
object_identifier_text arcs = join_by decimal (codes ".") arcs

-- an element, where there is one
unfoldable pub parameters_text : Option (List ℕ) → List ℕ
parameters_text None = []
parameters_text (Some element) = codes " " ++ hex element

unfoldable pub algorithm_text : AlgorithmIdentifier → List ℕ
algorithm_text a = object_identifier_text a.algorithm ++ parameters_text a.parameters

-- the type, and the element of the value
unfoldable pub attribute_text : AttributeTypeAndValue → List ℕ
attribute_text a = object_identifier_text a.attr_type ++ codes "=" ++ hex a.value

unfoldable pub relative_distinguished_name_text : RelativeDistinguishedName → List ℕ
relative_distinguished_name_text part = join_by attribute_text (codes "+") part.0

-- the parts in order; a dash where there are none
unfoldable pub name_text : Name → List ℕ
name_text (RdnSequence []) = codes "-"
name_text (RdnSequence (part ∷ parts)) = join_by relative_distinguished_name_text (codes ", ") (part ∷ parts)

-- how many bits of the last byte are unused, and the bytes
unfoldable pub bit_string_text : Bits → List ℕ
bit_string_text bits = decimal bits.unused ++ codes " " ++ hex bits.bytes

-- the form, and the contents octets; a time that is read has some
unfoldable pub time_text : Time → List ℕ
time_text (Utc t) = codes "utc " ++ unwrap_or (utc_time_contents.to t) []
time_text (General t) = codes "general " ++ unwrap_or (generalized_time_contents.to t) []

unfoldable pub criticality : Bool → List ℕ
criticality true = codes "critical"
criticality false = codes "-"

unfoldable pub extension_text : Extension → List ℕ
extension_text e = object_identifier_text e.extn_id ++ codes " " ++ criticality e.critical ++ codes " " ++ hex e.extn_value

unfoldable pub version_number : Version → List ℕ
version_number v = decimal (raw_value v)

-- what a line is about, what it says, and the end of the line
unfoldable pub line : {A : Type 0} → List ℕ → (A → List ℕ) → A → List ℕ
line label text x = label ++ codes " " ++ text x ++ codes "\n"

-- the line, where there is a value
unfoldable pub line_of : {A : Type 0} → List ℕ → (A → List ℕ) → Option A → List ℕ
line_of label text None = []
line_of label text (Some x) = line label text x

-- a line for each extension
unfoldable pub extension_lines : Option Extensions → List ℕ
extension_lines None = []
extension_lines (Some list) = flat_map (line (codes "extension") extension_text) list.0

-- lines, and more after them; grouped from the left, as the lines are pushed
infixl 10 ◌⨾◌
abbrev pub ◌⨾◌ : List ℕ → List ℕ → List ℕ
lines ⨾ more = lines ++ more

-- the lines of what the issuer signs
unfoldable pub tbs_lines : TbsCertificate → List ℕ
tbs_lines tbs =
    line (codes "version") version_number tbs.version
    ⨾ line (codes "serial") hex tbs.serial_number
    ⨾ line (codes "signature") algorithm_text tbs.signature
    ⨾ line (codes "issuer") name_text tbs.issuer
    ⨾ line (codes "not-before") time_text tbs.validity.not_before
    ⨾ line (codes "not-after") time_text tbs.validity.not_after
    ⨾ line (codes "subject") name_text tbs.subject
    ⨾ line (codes "key") algorithm_text tbs.subject_public_key_info.algorithm
    ⨾ line (codes "key-bits") bit_string_text tbs.subject_public_key_info.subject_public_key
    ⨾ line_of (codes "issuer-id") bit_string_text tbs.issuer_unique_id
    ⨾ line_of (codes "subject-id") bit_string_text tbs.subject_unique_id
    ⨾ extension_lines tbs.extensions

unfoldable pub listing : Certificate → List ℕ
listing c =
    tbs_lines c.tbs_certificate
    ⨾ line (codes "signature-algorithm") algorithm_text c.signature_algorithm
    ⨾ line (codes "signature-bits") bit_string_text c.signature_value

unfoldable pub yes_or_no : Bool → List ℕ
yes_or_no true = codes "yes"
yes_or_no false = codes "no"

-- the name of an issuer, the identifier of its key, and whether it may sign revocation lists
unfoldable pub issuer_lines : Name → List ℕ → Bool → List ℕ
issuer_lines name key_identifier signs_lists =
    line (codes "issuer") name_text name
    ⨾ line (codes "authority-key") hex key_identifier
    ⨾ line (codes "signs-lists") yes_or_no signs_lists
