-- The request that is written for parameters and attributes: a row for each field (RFC 2986, 4).
use Rattle.std.specs.Prelude.{◌≡◌, ℕ, ◌<◌, ◌==◌, Bool, true, ◌&&◌, not, List, [], ◌∷◌, ◌++◌, length, map}
use Rattle.std.specs.Prelude.{Option, Some, None, is_some, unwrap_or, refl}
use Rattle.std.specs.List.{AllByRecursion, list_all}
use Rattle.std.specs.List.Sorted.{IsPermutation}
use Rattle.std.specs.Option.{IfSome}
use Rattle.asn1_core.specs.Arcs.{is_oid}
use Rattle.asn1_core.specs.Binds.{◌>>=◌}
use Rattle.asn1_core.specs.Bits.{bits}
use Rattle.der_tree.specs.Form.{IsDerOf, value_of}
use Rattle.der_tree.specs.Grammar.{any, sequence_of, set_of}
use Rattle.der_tree.specs.HasTree.{HasTree}
use Rattle.der_tree.specs.PrimitiveTypes.{object_identifier}
use Rattle.der_tree.specs.SetOf.{is_set}
use Rattle.pkix_name.specs.GeneralNames.{general_name}
use Rattle.pkix_name.specs.Names.{attribute}
use Rattle.pkix_name.specs.declared.name.Attribute.{Attribute as AttributeValue}
use Rattle.pkix_cert.specs.Extensions.{extensions}
use Rattle.pkix_cert.specs.Requests.{certification_request, certification_request_info}
use Rattle.pkix_cert.specs.Versions.{v1}
use Rattle.pkix_cert.specs.declared.extension.Extensions.{Extensions}
use Rattle.pkix_cert.specs.declared.request.CertificationRequest.{CertificationRequest}
use Rattle.pkix_cert.specs.declared.request.CertificationRequestInfo.{CertificationRequestInfo}
use Rattle.rcgen_text.specs.Causes.{Cause, attribute_values, first, identifier, unsupported_in_csr, when}
use Rattle.rcgen_sign.specs.Keys.{Key}
use Rattle.rcgen_certificate.specs.BasicConstraints.{basic_constraints_row}
use Rattle.rcgen_certificate.specs.CustomExtensions.{custom_row}
use Rattle.rcgen_certificate.specs.ExtendedKeyUsages.{ext_key_usage, ext_key_usage_row}
use Rattle.rcgen_certificate.specs.ExtensionRows.{ExtensionRow, IsField, unless_empty}
use Rattle.rcgen_certificate.specs.Issue.{all_oids_valid}
use Rattle.rcgen_certificate.specs.IssuedExtensions.{has_no_place}
use Rattle.rcgen_certificate.specs.KeyUsages.{key_usage_row}
use Rattle.rcgen_certificate.specs.KeyValues.{signature_identifier, key_value}
use Rattle.rcgen_certificate.specs.NameValues.{name_value}
use Rattle.rcgen_certificate.specs.ParamsView.{ParamsView}
use Rattle.der_tree.specs.HasTree.{HasShortTree}
use Rattle.rcgen_certificate.specs.ShortParts.{HasShortAttributes, HaveShortTexts}
use Rattle.rcgen_certificate.specs.Signed.{HaveForms, MayRefuse}
use Rattle.rcgen_certificate.specs.SubjectAltNames.{subject_alt_name, subject_alt_name_row}
use Rattle.rcgen_certificate.specs.declared.csr.Attribute.{Attribute}

-- ---- the attributes that are given: SET SIZE (1..MAX) OF their values

pub record Given : Type 0 where
  pub oid : List ℕ
  pub values : List ℕ

abbrev pub given_of : Attribute → Given
given_of a = record { oid = a.oid.items; values = a.values.items }

-- the octets are the form of a set of these values, of which there are some
pub record AreValues (octets : List ℕ) (values : List (List ℕ)) : Type 0 where
  pub some : 0 < length values
  pub form : IsDerOf (set_of any 0 None [] refl) values octets

-- the values, of which the law `attribute_values_exactly` says this
unfoldable pub values_of : List ℕ → Option (List (List ℕ))
values_of octets = value_of (set_of any 0 None [] refl) octets >>= unless_empty

abbrev pub has_values : Attribute → Bool
has_values a = is_some (values_of (given_of a).values)

-- its type is an object identifier
abbrev pub has_attribute_type : Attribute → Bool
has_attribute_type a = is_oid (given_of a).oid

-- the attribute that is given, its values as they are
abbrev pub attribute_value : Attribute → AttributeValue
attribute_value a = record { attr_type = (given_of a).oid; values = unwrap_or (values_of (given_of a).values) [] }

-- ---- the extensions that are asked for (RFC 2985, 5.4.2)

-- those that are present, in this order: key usage (RFC 5280, 4.2.1.3); alternative names, critical where the subject
-- is empty (4.2.1.6); purposes (4.2.1.12); basic constraints (4.2.1.9); those that are given
abbrev pub request_rows : ParamsView → List ExtensionRow
request_rows params =
    key_usage_row params.key_usages
    ++ subject_alt_name_row (length params.distinguished_name == 0) params.subject_alt_names
    ++ ext_key_usage_row params.extended_key_usages
    ++ basic_constraints_row params.is_ca
    ++ map custom_row params.custom_extensions

abbrev pub id_extension_request : List ℕ
id_extension_request = 1 ∷ 2 ∷ 840 ∷ 113549 ∷ 1 ∷ 9 ∷ 14 ∷ []

-- the attribute of that type with one value, the form of the extensions
pub record IsExtensionRequest (asked : Extensions) (a : AttributeValue) : Type 0 where
  pub value : List ℕ
  pub form : IsDerOf extensions asked value
  pub attr_type : a.attr_type ≡ id_extension_request
  pub values : a.values ≡ value ∷ []

-- it is present where there are extensions
abbrev pub AreAsked : Option Extensions → List AttributeValue → Type 0
AreAsked None attributes = attributes ≡ []
AreAsked (Some asked) attributes = (a : AttributeValue) × IsExtensionRequest asked a × (attributes ≡ a ∷ [])

-- ---- the table

-- the attributes that are given, and extensionRequest where there is a row, each as often as it is there, in the order
-- of DER
pub record AreAttributes (rows : List ExtensionRow) (given : List Attribute) (attributes : List AttributeValue) : Type 0 where
  pub field : Option Extensions
  pub is_field : IsField rows field
  pub asked : List AttributeValue
  pub are_asked : AreAsked field asked
  pub each : IsPermutation (map attribute_value given ++ asked) attributes
  pub ordered : is_set attribute attributes ≡ true

-- what is signed for the parameters, the subject's key and the attributes (RFC 2986, 4.1), a row for each field
pub record IsInfo (params : ParamsView) (subject : Key) (attrs : List Attribute) (info : CertificationRequestInfo) : Type 0 where
  pub version : info.version ≡ v1
  pub subject_name : info.subject ≡ name_value params.distinguished_name
  pub subject_key : info.subject_public_key_info ≡ key_value subject.algorithm subject.octets
  pub attributes : AreAttributes (request_rows params) attrs info.attributes

-- der is the DER encoding of c, which is what is requested for them (RFC 2986, 4.2), and its signature fits that of what is signed
pub record RequestsAs (params : ParamsView) (subject : Key) (attrs : List Attribute) (fits : List ℕ → List ℕ → Type 0)
    (c : CertificationRequest) (der : List ℕ) : Type 0 where
  pub message : List ℕ
  pub form : IsDerOf certification_request c der
  pub message_form : IsDerOf certification_request_info c.info message
  pub info : IsInfo params subject attrs c.info
  pub signature_algorithm : c.signature_algorithm ≡ signature_identifier subject.algorithm
  pub no_unused_bits : c.signature.unused ≡ 0
  pub signed : fits message c.signature.bytes

-- der is the DER encoding of what is requested for them, signed so
abbrev pub Requests : ParamsView → Key → List Attribute → (List ℕ → List ℕ → Type 0) → List ℕ → Type 0
Requests params subject attrs fits der = (c : CertificationRequest) × RequestsAs params subject attrs fits c der

-- the key may refuse the DER encoding of what is signed for them
abbrev pub RefusesRequest : ParamsView → Key → List Attribute → (List ℕ → Type 0) → Type 0
RefusesRequest params subject attrs may_refuse =
    (info : CertificationRequestInfo) × IsInfo params subject attrs info × MayRefuse certification_request_info info may_refuse

-- ---- why nothing is requested

-- Why nothing is requested for the parameters with these attributes, in this order: something has no place in a
-- request; an identifier is none (X.690, 8.19), of the subject's name, of an extension or of an attribute; the values
-- of an attribute aren't a set of at least one (RFC 2986, 4.1).
abbrev pub first_request_cause : ParamsView → List Attribute → Option Cause
first_request_cause params attrs = first (
    when (has_no_place params) unsupported_in_csr
    ∷ when (not (all_oids_valid params && list_all has_attribute_type attrs)) identifier
    ∷ when (not (list_all has_values attrs)) attribute_values
    ∷ [])

-- ---- there is such a request

-- the extensions, and the attribute that asks for them, would have fewer than 2^64 octets
pub record IsShortExtensionRequest (asked : Extensions) : Type 0 where
  pub value : HasShortTree extensions asked
  pub request : (a : AttributeValue) → IsExtensionRequest asked a → HasShortTree attribute a

-- each attribute of the name and of the request, each text of an other name, and each value of an extension, where it may be long, has or would
-- have fewer than 2^64 octets, and so would the extensions that are asked for
pub record RequestFitsIn64Bits (params : ParamsView) (attrs : List Attribute) : Type 0 where
  pub subject_name : HasShortAttributes params.distinguished_name
  pub other_names : HaveShortTexts params.subject_alt_names
  pub alternative_names : IfSome (subject_alt_name params.subject_alt_names) (HasShortTree (sequence_of general_name 0 None refl))
  pub purposes : IfSome (ext_key_usage params.extended_key_usages) (HasShortTree (sequence_of object_identifier 0 None refl))
  pub asked : (x : Extensions) → IsField (request_rows params) (Some x) → IsShortExtensionRequest x
  pub attributes : AllByRecursion (λ a. HasShortTree attribute (attribute_value a)) attrs

-- c is what is requested for them, with this signature; it has a tree
pub record IsRequestedWith (params : ParamsView) (subject : Key) (attrs : List Attribute) (signature : List ℕ)
    (c : CertificationRequest) : Type 0 where
  pub info : IsInfo params subject attrs c.info
  pub signature_algorithm : c.signature_algorithm ≡ signature_identifier subject.algorithm
  pub signature_value : c.signature ≡ bits 0 signature
  pub has_tree : HasTree certification_request c

-- the parameters have a request with the attributes, for each subject's key and signature, where the parts are short; it has a DER encoding, unless
-- that would have 2^64 octets or more
abbrev pub RequestExists : ParamsView → List Attribute → Type 0
RequestExists params attrs =
    RequestFitsIn64Bits params attrs → (subject : Key) (signature : List ℕ)
    → (c : CertificationRequest) × IsRequestedWith params subject attrs signature c
    × (HasShortTree certification_request c → HaveForms certification_request c certification_request_info c.info)
