-- The attribute certificate that is issued for parameters: a row for each field (RFC 5755, 4.1).
use Rattle.std.specs.Prelude.{◌≡◌, ℕ, List, [], ◌∷◌, map, Some, None, unwrap_or}
use Rattle.std.specs.Option.{option_map}
use Rattle.asn1_core.specs.Twos.{unsigned}
use Rattle.der_tree.specs.Form.{IsDerOf}
use Rattle.pkix_attr.specs.Certificates.{attribute_certificate, attribute_certificate_info}
use Rattle.pkix_attr.specs.declared.certificate.AttributeCertificate.{AttributeCertificate}
use Rattle.pkix_attr.specs.declared.certificate.AttributeCertificateInfo.{AttributeCertificateInfo}
use Rattle.pkix_attr.specs.declared.certificate.AttributeCertificateVersion.{AttributeCertificateVersion}
use Rattle.pkix_attr.specs.declared.holder.Holder.{Holder}
use Rattle.pkix_attr.specs.declared.holder.Issuer.{Issuer}
use Rattle.pkix_attr.specs.declared.holder.Issuer.TheVariants.{V2}
use Rattle.pkix_attr.specs.declared.holder.IssuerSerial.{IssuerSerial}
use Rattle.pkix_name.specs.declared.general_name.GeneralName.{GeneralName}
use Rattle.pkix_name.specs.declared.general_name.GeneralName.TheVariants.{DirectoryName}
use Rattle.pkix_name.specs.declared.name.Attribute.{Attribute as AttributeValue}
use Rattle.pkix_name.specs.declared.name.Name.{Name}
use Rattle.rcgen_certificate.specs.ExtensionRows.{ExtensionRow, IsField}
use Rattle.rcgen_certificate.specs.KeyIdentifiers.{authority_key_row}
use Rattle.rcgen_certificate.specs.Issuers.{IssuerView}
use Rattle.rcgen_certificate.specs.KeyValues.{signature_identifier}
use Rattle.rcgen_certificate.specs.NameValues.{issuer_name}
use Rattle.rcgen_certificate.specs.Requests.{Given, values_of}
use Rattle.rcgen_certificate.specs.Signed.{MayRefuse}
use Rattle.rcgen_issue.specs.Entries.{IsGeneralInstant}
use Rattle.attr_issue.specs.AttributeCertificateView.{AttributeCertificateView, attribute_certificate_view}
use Rattle.attr_issue.specs.declared.attribute_certificate.AttributeCertificateParams.{AttributeCertificateParams}

-- ---- who holds the attributes, and who issues them

-- version 2 (4.2.1)
abbrev pub v2 : AttributeCertificateVersion
v2 = record { 0 = unsigned (1 ∷ []) }

-- one name, which is a directory name
abbrev pub directory_name : Name → List GeneralName
directory_name n = DirectoryName n ∷ []

-- the certificate with this number, of the issuer with this name
abbrev pub base_certificate : List ℕ → Name → IssuerSerial
base_certificate serial n = record { issuer = directory_name n; serial = unsigned serial; issuer_uid = None }

-- the holder of that certificate (4.2.2)
abbrev pub holder_value : List ℕ → Name → Holder
holder_value serial n = record { base_certificate_id = Some (base_certificate serial n); entity_name = None; object_digest_info = None }

-- the issuer with this name, in the form of version 2 (4.2.3)
abbrev pub issuer_value : Name → Issuer
issuer_value n = V2 (record { issuer_name = Some (directory_name n); base_certificate_id = None; object_digest_info = None })

-- ---- the table

-- an attribute that is given, its values as they are
abbrev pub attribute_of : Given → AttributeValue
attribute_of a = record { attr_type = a.oid; values = unwrap_or (values_of a.values) [] }

-- the identifier of the issuer's key, where it is asked for (4.3.3)
abbrev pub attribute_extension_rows : AttributeCertificateView → IssuerView → List ExtensionRow
attribute_extension_rows params issuer = authority_key_row params.use_authority_key_identifier_extension issuer.key_identifier

-- what is signed for the parameters, in view of the issuer (RFC 5755, 4.1), with the section of each field; times are GeneralizedTime in each year
pub record IsAttributeInfo (params : AttributeCertificateView) (issuer : IssuerView) (info : AttributeCertificateInfo) : Type 0 where
  pub version : info.version ≡ v2  -- 4.2.1
  pub holder : option_map (holder_value params.holder_serial) (issuer_name params.holder_issuer) ≡ Some info.holder  -- 4.2.2
  pub issuer_form : option_map issuer_value issuer.name ≡ Some info.issuer  -- 4.2.3
  pub signature : info.signature ≡ signature_identifier issuer.algorithm  -- 4.2.4
  pub serial_number : info.serial_number ≡ unsigned params.serial_number  -- 4.2.5
  pub not_before : IsGeneralInstant params.not_before info.attr_cert_validity_period.not_before  -- 4.2.6
  pub not_after : IsGeneralInstant params.not_after info.attr_cert_validity_period.not_after  -- 4.2.6
  pub attributes : info.attributes ≡ map attribute_of params.attributes  -- 4.2.7
  pub issuer_unique_id : info.issuer_unique_id ≡ None  -- 4.2.8
  pub extensions : IsField (attribute_extension_rows params issuer) info.extensions  -- 4.2.9

-- c is what is issued for them
pub record IsIssuedAttribute (params : AttributeCertificateView) (issuer : IssuerView) (c : AttributeCertificate) : Type 0 where
  pub info : IsAttributeInfo params issuer c.info
  pub signature_algorithm : c.signature_algorithm ≡ signature_identifier issuer.algorithm
  pub no_unused_bits : c.signature_value.unused ≡ 0

-- der is the DER encoding of c, which is what is issued for them, and its signature fits that of what is signed
pub record IssuesAttributeAs (params : AttributeCertificateView) (issuer : IssuerView) (fits : List ℕ → List ℕ → Type 0)
    (c : AttributeCertificate) (der : List ℕ) : Type 0 where
  pub message : List ℕ
  pub form : IsDerOf attribute_certificate c der
  pub message_form : IsDerOf attribute_certificate_info c.info message
  pub issued : IsIssuedAttribute params issuer c
  pub signed : fits message c.signature_value.bytes

-- der is the DER encoding of what is issued for them, signed so
abbrev pub IssuesAttribute : AttributeCertificateView → IssuerView → (List ℕ → List ℕ → Type 0) → List ℕ → Type 0
IssuesAttribute params issuer fits der = (c : AttributeCertificate) × IssuesAttributeAs params issuer fits c der

-- the key may refuse the DER encoding of what is signed for them
abbrev pub RefusesAttribute : AttributeCertificateView → IssuerView → (List ℕ → Type 0) → Type 0
RefusesAttribute params issuer may_refuse =
    (info : AttributeCertificateInfo) × IsAttributeInfo params issuer info × MayRefuse attribute_certificate_info info may_refuse

-- ---- copies

-- both say the same, and their clocks show the same times
pub record SaysSameAttributes (params copy : AttributeCertificateParams) : Type 0 where
  pub view : attribute_certificate_view copy ≡ attribute_certificate_view params
  pub not_before : copy.not_before ≡ params.not_before
  pub not_after : copy.not_after ≡ params.not_after
