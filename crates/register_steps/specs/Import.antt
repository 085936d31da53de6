-- Certificates that were issued before, as events.
use Rattle.std.specs.Prelude.{◌≡◌, ℕ, Bool, true, false, List, Option, Some, None}
use Rattle.std.specs.Str.{bytes_eq}
use Rattle.der_tree.specs.Form.{value_of}
use Rattle.pkix_attr.specs.Certificates.{attribute_certificate_info}
use Rattle.pkix_attr.specs.declared.certificate.AttributeCertificateInfo.{AttributeCertificateInfo}
use Rattle.pkix_cert.specs.Views.{CertificateParts, certificate_parts}
use Rattle.register_record.specs.declared.event.Event.TheVariants as event
use Rattle.register_record.specs.declared.event.Kind.{Kind}
use Rattle.register_record.specs.declared.event.Kind.TheVariants.{Certificate, AttributeCertificate}
use Rattle.register_steps.specs.Messages.{described}
use Rattle.register_steps.specs.Names.{is_attribute_named}
use Rattle.register_steps.specs.Sealing.{IsOpened}
use Rattle.register_steps.specs.declared.message.Description.{Description}
use Rattle.register_steps.specs.declared.import.ImportedEvents.{ImportedEvents}
use Rattle.register_steps.specs.declared.sealing.SealError.{SealError}
use Rattle.register_steps.specs.declared.sealing.SealError.TheVariants as seal

-- a certificate names as its issuer the subject of the issuer's certificate, octet for octet (RFC 5280, 4.1.2.4, 4.1.2.6)
abbrev pub is_certificate_named : Option CertificateParts → Option CertificateParts → Bool
is_certificate_named None it = false
is_certificate_named (Some issuer) None = false
is_certificate_named (Some issuer) (Some it) = bytes_eq issuer.subject it.issuer

-- and so does an attribute certificate
abbrev pub is_named : Kind → Option CertificateParts → Option CertificateParts → Option AttributeCertificateInfo → Bool
is_named AttributeCertificate issuer it info = is_attribute_named issuer info
is_named Certificate issuer it info = is_certificate_named issuer it

-- its message is reserved under its serial number, then these octets are sealed; the issuer's key made its signature, and it names the issuer
pub record IsImported (issuer octets : List ℕ) (i : ImportedEvents) : Type 0 where
  pub message : List ℕ
  pub opened : IsOpened issuer octets message
  pub says : Description
  pub says_is : described message ≡ Some says
  pub named : is_named says.kind (certificate_parts issuer) (certificate_parts octets) (value_of attribute_certificate_info message) ≡ true
  pub reserved : i.reserved ≡ event.Reserved says.serial says.kind says.not_after message
  pub sealed : i.sealed ≡ event.Sealed says.serial octets

-- there are no such events, or memory ran out
abbrev pub ExplainsImport : List ℕ → List ℕ → SealError → Type 0
ExplainsImport issuer octets seal.OutOfMemory = Unit {0}
ExplainsImport issuer octets _ = (i : ImportedEvents) → IsImported issuer octets i → ⊥
