-- Files that are DER.
use Rattle.std.specs.Prelude.{ℕ, Bool, false, ◌&&◌, ◌==◌, if◌then◌else◌, is_some, List, [], ◌∷◌, codes}
use Rattle.der_tree.specs.Element.{one_element}
use Rattle.der_tree.specs.Form.{value_of}
use Rattle.pkix_attr.specs.Certificates.{attribute_certificate}
use Rattle.pkix_cert.specs.Algorithms.{subject_public_key_info}
use Rattle.pkix_cert.specs.Certificates.{certificate}
use Rattle.pkix_cert.specs.Requests.{certification_request}
use Rattle.pkix_cert.specs.Revocations.{certificate_list}

-- the identifier octet of a SEQUENCE (X.690, 8.9.1) comes first
abbrev pub begins_sequence : List ℕ → Bool
begins_sequence [] = false
begins_sequence (b ∷ bs) = b == 48

-- one SEQUENCE, and nothing after it (X.690, 8.1 and 10.1)
unfoldable pub is_der : List ℕ → Bool
is_der file = begins_sequence file && is_some (one_element file)

-- the label under which octets are read as the DER of what they are (RFC 7468, 5 to 7, 12 and 13), and `DER` where they
-- aren't one of these
unfoldable pub der_label : List ℕ → List ℕ
der_label octets =
    if is_some (value_of certificate octets) then codes "CERTIFICATE"
    else if is_some (value_of certification_request octets) then codes "CERTIFICATE REQUEST"
    else if is_some (value_of subject_public_key_info octets) then codes "PUBLIC KEY"
    else if is_some (value_of certificate_list octets) then codes "X509 CRL"
    else if is_some (value_of attribute_certificate octets) then codes "ATTRIBUTE CERTIFICATE" else codes "DER"
