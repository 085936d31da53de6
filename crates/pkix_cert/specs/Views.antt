-- The parts of a certificate, as they occur in its form (RFC 5280, 4.1).
use Rattle.std.specs.Prelude.{Bool, List, None, Option, Some, cond, false, find, is_some, map, ℕ, [], ◌+◌, ◌∷◌}
use Rattle.std.specs.List.{slice_get}
use Rattle.asn1_core.specs.Binds.{◌>>=◌}
use Rattle.asn1_core.specs.declared.tag.Tag.{Tag}
use Rattle.der_tree.specs.Element.{Element, element_at, element_octets}
use Rattle.der_tree.specs.SetOf.{octets_in}
use Rattle.der_tree.specs.Tags.{context, same_tag, universal}
use Rattle.pkix_cert.specs.Certificates.{certificate}
use Rattle.pkix_cert.specs.Unread.{front}

-- ---- elements within one

-- the elements within one, where there is one
abbrev pub inside : Option Element → List Element
inside None = []
inside (Some s) = front s.content

-- the octets of the element at a place, counted from 0
abbrev pub octets_at : ℕ → List Element → List ℕ
octets_at place ss = octets_in (slice_get ss place)

abbrev pub has_tag : Tag → Option Element → Bool
has_tag g None = false
has_tag g (Some s) = same_tag s.tag g

abbrev pub content_in : Option Element → List ℕ
content_in None = []
content_in (Some s) = s.content

-- the last, or the one before where there is none
abbrev pub last_from : Option Element → List Element → Option Element
last_from before [] = before
last_from before (s ∷ ss) = last_from (Some s) ss

abbrev pub last_of : List Element → Option Element
last_of ss = last_from None ss

-- the first with the tag
abbrev pub tagged : Tag → List Element → Option Element
tagged g ss = find (λ s. same_tag s.tag g) ss

-- ---- an extension

pub record ExtensionParts : Type 0 where
  pub whole : List ℕ
  -- the element of the identifier
  pub id : List ℕ
  pub critical : Bool
  -- the contents of the OCTET STRING
  pub contents : List ℕ

-- the identifier comes first, a BOOLEAN second where the extension is critical, and the contents last
unfoldable pub extension_parts : Element → ExtensionParts
extension_parts s =
    let ss = inside (Some s) in
    record {
      whole = element_octets s;
      id = octets_at 0 ss;
      critical = has_tag (universal 1) (slice_get ss 1);
      contents = content_in (last_of ss);
    }

-- ---- a certificate

pub record CertificateParts : Type 0 where
  pub whole : List ℕ
  -- what follows the certificate
  pub after : List ℕ
  pub tbs : List ℕ
  pub serial_number : List ℕ
  pub tbs_signature : List ℕ
  pub issuer : List ℕ
  pub validity : List ℕ
  pub subject : List ℕ
  pub key_info : List ℕ
  pub signature_algorithm : List ℕ
  pub signature : List ℕ
  pub extensions : List ExtensionParts

-- 1 where the first of the elements has context tag 0, and 0 otherwise
abbrev pub version_count : List Element → ℕ
version_count ss = cond (has_tag (context 0) (slice_get ss 0)) 1 0

-- the SEQUENCE of the extensions: the element within the one of context tag 3
abbrev pub extension_list : List Element → Option Element
extension_list ss = slice_get (inside (tagged (context 3) ss)) 0

-- what is signed, the algorithm and the signature come in this order; within the first of them, after the version
-- where it is written, the six parts
unfoldable pub parts_of : Element → List ℕ → CertificateParts
parts_of s after =
    let three = inside (Some s) in
    let ss = inside (slice_get three 0) in
    let n = version_count ss in
    record {
      whole = element_octets s;
      after = after;
      tbs = octets_at 0 three;
      serial_number = octets_at n ss;
      tbs_signature = octets_at (n + 1) ss;
      issuer = octets_at (n + 2) ss;
      validity = octets_at (n + 3) ss;
      subject = octets_at (n + 4) ss;
      key_info = octets_at (n + 5) ss;
      signature_algorithm = octets_at 1 three;
      signature = octets_at 2 three;
      extensions = map extension_parts (inside (extension_list ss));
    }

-- the parts of the certificate whose form a front of the octets is
unfoldable pub certificate_parts : List ℕ → Option CertificateParts
certificate_parts input = element_at input >>= λ x. cond (is_some (certificate.read_of x.0)) (Some (parts_of x.0 x.1)) None
