-- Who issues: the subject of a certificate.
use Rattle.std.specs.Prelude.{ℕ, Bool, true, false, ◌||◌, ◌==◌, not, length, List, Option, Some, None, Result, find, nat_eq}
use Rattle.std.specs.Cmp.Lexicographic.{pointwise}
use Rattle.std.specs.List.{list_any}
use Rattle.der_tree.specs.Form.{value_of}
use Rattle.issuer_check.specs.Judged.{authority_checked, issuer_checked}
use Rattle.pkix_cert.specs.Held.{extensions_in}
use Rattle.pkix_cert.specs.Certificates.{certificate}
use Rattle.pkix_cert.specs.Constraints.{basic_constraints}
use Rattle.pkix_cert.specs.ExtensionIds.{ce_basic_constraints, id_ce}
use Rattle.pkix_cert.specs.declared.certificate.Certificate.{Certificate}
use Rattle.pkix_cert.specs.declared.constraint.BasicConstraints.{BasicConstraints}
use Rattle.pkix_cert.specs.declared.extension.Extension.{Extension}
use Rattle.rcgen_certificate.specs.Issuers.{IssuerView, issuer_view}
use Rattle.rcgen_read.specs.IssuerReading.{CertifiedIssuer, read_certified}
use Rattle.rcgen_sign.specs.Keys.{Key}
use Rattle.rcgen_text.specs.declared.key_usage.KeyUsagePurpose.{KeyUsagePurpose}
use Rattle.rcgen_text.specs.declared.key_usage.KeyUsagePurpose.TheVariants.{DigitalSignature, KeyCertSign}
use Rattle.shelf_fault.specs.Faults.{and_then, by_cause, some_or}
use Rattle.shelf_fault.specs.declared.fault.Fault.{Fault}
use Rattle.shelf_fault.specs.declared.fault.Fault.TheVariants as fault
use Rattle.shelf_fault.specs.declared.fault.IssuerFault.TheVariants.{IsAuthority, NotRead, NoAuthority}
use Rattle.shelf_fault.specs.declared.fault.Place.TheVariants as place
use Rattle.shelf_profile.specs.declared.signing.Signing.{Signing}
use Rattle.shelf_keys.specs.Refusing.{refuse}
use Rattle.shelf_keys.specs.Keys.{key_of_info}

-- the certificate that the octets are
unfoldable pub certificate_of : List ℕ → Result Certificate Fault
certificate_of octets = some_or (value_of certificate octets) (fault.Issuer NotRead)

-- its basicConstraints say cA (RFC 5280, 4.2.1.9)
abbrev pub says_ca : Option BasicConstraints → Bool
says_ca None = false
says_ca (Some c) = c.ca

abbrev pub is_authority_by : Option Extension → Bool
is_authority_by None = false
is_authority_by (Some e) = says_ca (value_of basic_constraints e.extn_value)

abbrev pub is_basic_constraints : Extension → Bool
is_basic_constraints e = pointwise nat_eq e.extn_id (id_ce ce_basic_constraints)

unfoldable pub is_authority : Certificate → Bool
is_authority c = is_authority_by (find is_basic_constraints (extensions_in c.tbs_certificate.extensions))

-- the key of an authority whose certificate this is, and under which what is issued may be valid
unfoldable pub authority_key : List ℕ → Signing → Result Key Fault
authority_key octets signing =
    and_then (certificate_of octets) (λ c.
    and_then (refuse (not (is_authority c)) (fault.Issuer NoAuthority)) (λ u.
    and_then (authority_checked octets) (λ u.
    key_of_info place.Issuer signing c.tbs_certificate.subject_public_key_info)))

-- the key of an issuer of attribute certificates, which is no authority (RFC 5755, 4.5)
unfoldable pub attribute_authority_key : List ℕ → Signing → Result Key Fault
attribute_authority_key octets signing =
    and_then (certificate_of octets) (λ c.
    and_then (refuse (is_authority c) (fault.Issuer IsAuthority)) (λ u.
    and_then (issuer_checked octets) (λ u.
    key_of_info place.Issuer signing c.tbs_certificate.subject_public_key_info)))

-- what a certificate says of its subject as an issuer, under exactly the name that is written there
unfoldable pub certified : List ℕ → Result CertifiedIssuer Fault
certified octets = by_cause (read_certified octets)

-- that issuer with its key
abbrev pub with_key : CertifiedIssuer → Key → IssuerView
with_key c key = issuer_view c.field c.method c.usages key

abbrev pub is_cert_sign : KeyUsagePurpose → Bool
is_cert_sign KeyCertSign = true
is_cert_sign _ = false

-- a key with these usages may sign certificates (RFC 5280, 4.2.1.3); none are there where the certificate has no extension on them, since one that
-- states none is refused before
abbrev pub signs_certificates : List KeyUsagePurpose → Bool
signs_certificates usages = length usages == 0 || list_any is_cert_sign usages

abbrev pub is_digital_signature : KeyUsagePurpose → Bool
is_digital_signature DigitalSignature = true
is_digital_signature _ = false

-- a key with these usages may sign what is neither a certificate nor a list
abbrev pub signs_digitally : List KeyUsagePurpose → Bool
signs_digitally usages = length usages == 0 || list_any is_digital_signature usages
