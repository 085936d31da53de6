-- A certification request as it is received (RFC 2986, 4).
use Rattle.std.specs.Prelude.{ℕ, Bool, not, ◌||◌, ◌==◌, cond, List, [], ◌∷◌, Option, Some, None, find, nat_eq, refl}
use Rattle.std.specs.Cmp.Lexicographic.{pointwise}
use Rattle.std.specs.List.{slice_get}
use Rattle.asn1_core.specs.Binds.{◌>>=◌}
use Rattle.der_tree.specs.Codec.{Codec}
use Rattle.der_tree.specs.Element.{Element, children_of, element_at, element_octets}
use Rattle.der_tree.specs.Grammar.{sequence_of}
use Rattle.pkix_name.specs.declared.name.Attribute.{Attribute}
use Rattle.pkix_cert.specs.Extensions.{extension}
use Rattle.pkix_cert.specs.Requests.{certification_request}
use Rattle.pkix_cert.specs.declared.extension.Extension.{Extension}
use Rattle.pkix_cert.specs.declared.request.CertificationRequest.{CertificationRequest}
use Rattle.rcgen_certificate.specs.Requests.{id_extension_request}
use Rattle.der_tree.specs.Form.{value_of}
use Rattle.rcgen_read.specs.declared.received.ReceivedRequest.{ReceivedRequest as Received}
use Rattle.rcgen_read.specs.declared.received.SignedOctets.{SignedOctets as Octets}

-- the element at the start of the bytes, whatever follows it
abbrev pub front_at : List ℕ → Option Element
front_at bytes = element_at bytes >>= λ x. Some x.0

-- the value that is there
abbrev pub front_value : {A : Type 0} → Codec A → List ℕ → Option A
front_value c bytes = front_at bytes >>= c.read_of

-- ---- what the signature is asked about

-- the octets of these parts of a request in the input, headers included
pub record SignedOctets : Type 0 where
  pub info : List ℕ
  pub key_info : List ℕ
  pub algorithm : List ℕ

-- the element at a place within another, counted from 0
abbrev pub child : ℕ → Element → Option Element
child place s = children_of s >>= λ ss. slice_get ss place

-- the info is the first part of a request and the algorithm the second; the key's info is the third part of the info
unfoldable pub signed_octets : Element → Option SignedOctets
signed_octets s = do
  info ← child 0 s
  algorithm ← child 1 s
  key_info ← child 2 info
  Some (record { info = element_octets info; key_info = element_octets key_info; algorithm = element_octets algorithm })

-- ---- the extensions that are asked for

abbrev pub is_extension_request : Attribute → Bool
is_extension_request a = pointwise nat_eq a.attr_type id_extension_request

-- of an attribute's values: there is one, a SEQUENCE of extensions, which may be empty
abbrev pub extensions_of : List (List ℕ) → Option (List Extension)
extensions_of [] = None
extensions_of (value ∷ []) = value_of (sequence_of extension 0 None refl) value
extensions_of (value ∷ another ∷ more) = None

-- none are asked for where there is no such attribute
abbrev pub extensions_in : Option Attribute → Option (List Extension)
extensions_in None = Some []
extensions_in (Some a) = extensions_of a.values

-- of the first such attribute; another one isn't looked at
unfoldable pub requested_extensions : List Attribute → Option (List Extension)
requested_extensions attributes = extensions_in (find is_extension_request attributes)

-- ---- the request

-- bits at the end of the key or of the signature are unused
abbrev pub has_unused_bits : CertificationRequest → Bool
has_unused_bits r = not (r.info.subject_public_key_info.subject_public_key.unused == 0) || not (r.signature.unused == 0)

pub record ReceivedRequest : Type 0 where
  pub request : CertificationRequest
  pub signed : SignedOctets
  pub extensions : List Extension

-- the request at the start of the bytes
unfoldable pub received_at : List ℕ → Option ReceivedRequest
received_at der = do
  s ← front_at der
  request ← certification_request.read_of s
  signed ← signed_octets s
  extensions ← requested_extensions request.info.attributes
  cond (has_unused_bits request) None (Some (record { request = request; signed = signed; extensions = extensions }))

-- ---- the same, as the code has it

abbrev pub signed_view : Octets → SignedOctets
signed_view s = record { info = s.info.now; key_info = s.key_info.now; algorithm = s.algorithm.now }

abbrev pub received_view : Received → ReceivedRequest
received_view r = record { request = r.request; signed = signed_view r.signed; extensions = r.extensions }
