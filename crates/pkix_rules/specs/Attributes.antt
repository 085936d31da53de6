-- The rules that an attribute certificate breaks (RFC 5755, 4).
use Rattle.std.specs.Prelude.{Bool, List, None, Option, Some, [], false, int_lt, is_some, length, not, ℕ, ◌&&◌, ◌++◌, ◌==◌, ◌||◌, ◌∷◌}
use Rattle.std.specs.List.{list_any}
use Rattle.jiff.specs.Words.{civil_nanos}
use Rattle.asn1_core.specs.declared.time.generalized_time.GeneralizedTime.{GeneralizedTime}
use Rattle.der_tree.specs.Form.{value_of}
use Rattle.pkix_attr.specs.Certificates.{attribute_certificate_info}
use Rattle.pkix_attr.specs.declared.certificate.AttributeCertificateInfo.{AttributeCertificateInfo}
use Rattle.pkix_attr.specs.declared.certificate.AttributeCertificateValidityPeriod.{AttributeCertificateValidityPeriod}
use Rattle.pkix_attr.specs.declared.certificate.AttributeCertificateVersion.{AttributeCertificateVersion}
use Rattle.pkix_attr.specs.declared.holder.Holder.{Holder}
use Rattle.pkix_attr.specs.declared.holder.Issuer.{Issuer}
use Rattle.pkix_attr.specs.declared.holder.Issuer.TheVariants.{V1, V2}
use Rattle.pkix_attr.specs.declared.holder.IssuerSerial.{IssuerSerial}
use Rattle.pkix_attr.specs.declared.holder.V2Form.{V2Form}
use Rattle.pkix_cert.specs.Distances.{same_integer}
use Rattle.pkix_cert.specs.ExtensionIds.{ce_authority_key_identifier, id_ce}
use Rattle.pkix_cert.specs.Held.{extensions_in}
use Rattle.pkix_cert.specs.KeyIdentifiers.{authority_key_identifier}
use Rattle.pkix_cert.specs.declared.extension.Extension.{Extension}
use Rattle.pkix_name.specs.declared.general_name.GeneralName.{GeneralName}
use Rattle.pkix_name.specs.declared.general_name.GeneralName.TheVariants.{DirectoryName, DnsName, EdiPartyName, IpAddress, OtherName, RegisteredId, Rfc822Name, Uri, X400Address}
use Rattle.pkix_name.specs.declared.name.Name.{Name}
use Rattle.strict_der.specs.Strict.{is_strict}
use Rattle.pkix_rules.specs.AltNames.{names_in}
use Rattle.pkix_rules.specs.Certificates.{differ, is_empty_id, issuer_key_id}
use Rattle.pkix_rules.specs.Contents.{is_loose}
use Rattle.pkix_rules.specs.Criticality.{pointer_rules}
use Rattle.pkix_rules.specs.Extensions.{has_critical, has_uncritical, is_critical_stranger, repeats_any, said}
use Rattle.pkix_rules.specs.Frames.{serial_rules}
use Rattle.pkix_rules.specs.Keys.{has_bad_parameters}
use Rattle.pkix_rules.specs.Names.{are_ia5_texts, are_printable_texts, are_short_texts, are_texts, countries_fit, is_empty_name}
use Rattle.pkix_rules.specs.Requests.{attribute_rules}
use Rattle.pkix_rules.specs.Said.{ce_extension, key_identifier_in}
use Rattle.pkix_rules.specs.Identifiers.{known_attribute_extensions}
use Rattle.pkix_rules.specs.declared.identifiers.TheConstants.{AUDIT_IDENTITY, NO_REVOCATION, TARGET_INFORMATION}
use Rattle.rule_table.specs.Found.{when}
use Rattle.rule_table.specs.declared.rule.Rule.{Rule}
use Rattle.rule_table.specs.declared.rule.Rule.TheVariants.{AttributeIssuerForm, AttributeVersion, AuthorityKeyIdDiffers, CriticalAuthorityKeyId, CriticalNoRevocation, EmptyAuthorityKeyId, EmptyHolderName, ExtensionNotDer}
use Rattle.rule_table.specs.declared.rule.Rule.TheVariants.{ExtensionTwice, HolderForms, HolderNameForm, NoAttributes, NotStrictDer, SignatureParameters, TimeFraction}
use Rattle.rule_table.specs.declared.rule.Rule.TheVariants.{UncriticalAuditIdentity, UncriticalTargets, UnknownCriticalExtension, ValidityReversed}

-- v2(1) (4.2.1)
abbrev pub is_second_version : AttributeCertificateVersion → Bool
is_second_version v = same_integer v.0 (1 ∷ [])

-- ---- the holder (4.2.2)

abbrev pub is_one : Bool → Bool → Bool → Bool
is_one a b c = (a && not b && not c) || (not a && b && not c) || (not a && not b && c)

abbrev pub issuer_names_in : Option IssuerSerial → List GeneralName
issuer_names_in None = []
issuer_names_in (Some id) = id.issuer

abbrev pub is_empty_directory_name : GeneralName → Bool
is_empty_directory_name (DirectoryName n) = is_empty_name n
is_empty_directory_name (OtherName n) = false
is_empty_directory_name (Rfc822Name t) = false
is_empty_directory_name (DnsName t) = false
is_empty_directory_name (X400Address a) = false
is_empty_directory_name (EdiPartyName n) = false
is_empty_directory_name (Uri t) = false
is_empty_directory_name (IpAddress o) = false
is_empty_directory_name (RegisteredId i) = false

abbrev pub has_empty_name : List GeneralName → Bool
has_empty_name names = list_any is_empty_directory_name names

-- an attribute's value doesn't have the type of its identifier (RFC 5280, A.1)
abbrev pub is_odd_name : Name → Bool
is_odd_name n = not (countries_fit n && are_ia5_texts n && are_printable_texts n && are_texts n && are_short_texts n)

abbrev pub is_odd_directory_name : GeneralName → Bool
is_odd_directory_name (DirectoryName n) = is_odd_name n
is_odd_directory_name (OtherName n) = false
is_odd_directory_name (Rfc822Name t) = false
is_odd_directory_name (DnsName t) = false
is_odd_directory_name (X400Address a) = false
is_odd_directory_name (EdiPartyName n) = false
is_odd_directory_name (Uri t) = false
is_odd_directory_name (IpAddress o) = false
is_odd_directory_name (RegisteredId i) = false

unfoldable pub holder_rules : Holder → List Rule
holder_rules h =
    when (not (is_one (is_some h.base_certificate_id) (is_some h.entity_name) (is_some h.object_digest_info))) HolderForms
    ++ when (has_empty_name (issuer_names_in h.base_certificate_id) || has_empty_name (names_in h.entity_name)) EmptyHolderName
    ++ when (list_any is_odd_directory_name (issuer_names_in h.base_certificate_id) || list_any is_odd_directory_name (names_in h.entity_name)) HolderNameForm

-- ---- the issuer (4.2.3)

abbrev pub is_directory_name : GeneralName → Bool
is_directory_name (DirectoryName n) = not (is_empty_name n)
is_directory_name (OtherName n) = false
is_directory_name (Rfc822Name t) = false
is_directory_name (DnsName t) = false
is_directory_name (X400Address a) = false
is_directory_name (EdiPartyName n) = false
is_directory_name (Uri t) = false
is_directory_name (IpAddress o) = false
is_directory_name (RegisteredId i) = false

-- one, and a directory name with a part
abbrev pub is_one_name : List GeneralName → Bool
is_one_name [] = false
is_one_name (n ∷ []) = is_directory_name n
is_one_name (n ∷ m ∷ names) = false

abbrev pub is_named : V2Form → Bool
is_named f = is_one_name (names_in f.issuer_name) && not (is_some f.base_certificate_id) && not (is_some f.object_digest_info)

abbrev pub is_named_issuer : Issuer → Bool
is_named_issuer (V1 names) = false
is_named_issuer (V2 form) = is_named form

-- ---- times (4.2.6)

abbrev pub has_fraction_at : GeneralizedTime → Bool
has_fraction_at t = not (t.at.time.subsec_nanosecond == 0)

unfoldable pub time_rules : AttributeCertificateValidityPeriod → List Rule
time_rules p =
    when (int_lt (civil_nanos p.not_after.at) (civil_nanos p.not_before.at)) ValidityReversed
    ++ when (has_fraction_at p.not_before || has_fraction_at p.not_after) TimeFraction

-- ---- extensions (4.3)

unfoldable pub target_rules : List Extension → List Rule
target_rules es =
    when (has_uncritical TARGET_INFORMATION.now es) UncriticalTargets
    ++ when (has_uncritical AUDIT_IDENTITY.now es) UncriticalAuditIdentity
    ++ when (has_critical NO_REVOCATION.now es) CriticalNoRevocation

unfoldable pub extension_rules : List Extension → List Rule
extension_rules es =
    when (repeats_any es) ExtensionTwice
    ++ when (list_any is_loose es) ExtensionNotDer
    ++ when (list_any (is_critical_stranger known_attribute_extensions) es) UnknownCriticalExtension
    ++ target_rules es
    ++ pointer_rules es

abbrev pub named_key : List Extension → Option (List ℕ)
named_key es = key_identifier_in (said authority_key_identifier (ce_extension ce_authority_key_identifier es))

unfoldable pub key_rules : List Extension → Option (List ℕ) → List Rule
key_rules es issuer_key =
    when (is_empty_id (named_key es)) EmptyAuthorityKeyId
    ++ when (differ (named_key es) issuer_key) AuthorityKeyIdDiffers
    ++ when (has_critical (id_ce ce_authority_key_identifier) es) CriticalAuthorityKeyId

-- ---- of octets

unfoldable pub frame_rules : AttributeCertificateInfo → List Rule
frame_rules a =
    when (not (is_second_version a.version)) AttributeVersion
    ++ when (not (is_named_issuer a.issuer)) AttributeIssuerForm
    ++ when (has_bad_parameters a.signature) SignatureParameters
    ++ serial_rules a.serial_number
    ++ time_rules a.attr_cert_validity_period
    ++ when (length a.attributes == 0) NoAttributes
    ++ attribute_rules a.attributes

unfoldable pub rules_of : AttributeCertificateInfo → Option (List ℕ) → List Rule
rules_of a issuer_key =
    holder_rules a.holder ++ frame_rules a ++ extension_rules (extensions_in a.extensions) ++ key_rules (extensions_in a.extensions) issuer_key

abbrev pub attribute_certificate_found : Bool → Option AttributeCertificateInfo → Option (List ℕ) → List Rule
attribute_certificate_found strict None issuer_key = []
attribute_certificate_found strict (Some a) issuer_key = rules_of a issuer_key ++ when (not strict) NotStrictDer

-- of the attribute certificate to be signed, beside its issuer's certificate; none where the octets can't be read
unfoldable pub attribute_certificate_rules : List ℕ → Option (List ℕ) → List Rule
attribute_certificate_rules message issuer =
    attribute_certificate_found (is_strict message) (value_of attribute_certificate_info message) (issuer_key_id issuer)
