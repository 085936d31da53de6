-- The rules that a certificate breaks, beside the certificate of its issuer.
use Rattle.std.specs.Prelude.{Bool, List, None, Option, Some, [], cond, false, is_some, length, not, ℕ, ◌&&◌, ◌++◌, ◌==◌, ◌||◌}
use Rattle.std.specs.List.{list_any}
use Rattle.std.specs.Ordering.{int_cmp, is_lt}
use Rattle.std.specs.Str.{bytes_eq}
use Rattle.asn1_core.specs.Binds.{◌>>=◌}
use Rattle.asn1_core.specs.Twos.{signed}
use Rattle.der_tree.specs.Form.{value_of}
use Rattle.der_tree.specs.PrimitiveTypes.{octet_string}
use Rattle.pkix_name.specs.contracts.name.NamePartialEq.TheImpl.{ghosts as names}
use Rattle.pkix_cert.specs.Certificates.{certificate, tbs_certificate}
use Rattle.pkix_cert.specs.Distances.{same_integer}
use Rattle.pkix_cert.specs.ExtensionIds.{ce_subject_key_identifier}
use Rattle.pkix_cert.specs.Held.{extensions_in}
use Rattle.pkix_cert.specs.declared.certificate.Certificate.{Certificate}
use Rattle.pkix_cert.specs.declared.certificate.TbsCertificate.{TbsCertificate}
use Rattle.pkix_cert.specs.declared.extension.Extension.{Extension}
use Rattle.pkix_cert.specs.declared.key_identifier.AuthorityKeyIdentifier.{AuthorityKeyIdentifier}
use Rattle.strict_der.specs.Strict.{is_strict}
use Rattle.pkix_rules.specs.Constrained.{constrained_rules}
use Rattle.pkix_rules.specs.Extensions.{said}
use Rattle.pkix_rules.specs.Frames.{frame_rules, is_earlier}
use Rattle.pkix_rules.specs.Integers.{is_zero}
use Rattle.pkix_rules.specs.Issuers.{issuer_extension_rules}
use Rattle.pkix_rules.specs.Said.{ce_extension, has_purpose, is_authority, key_identifier_in, path_length_in, said_of}
use Rattle.pkix_rules.specs.Shared.{shared_rules}
use Rattle.pkix_rules.specs.declared.certificate.Statements.{Statements}
use Rattle.pkix_rules.specs.declared.identifiers.TheConstants.{ANY_PURPOSE}
use Rattle.pkix_rules.specs.declared.said.Said.{Said}
use Rattle.rule_table.specs.Found.{when}
use Rattle.rule_table.specs.declared.rule.Rule.{Rule}
use Rattle.rule_table.specs.declared.rule.Rule.TheVariants.{AuthorityKeyIdDiffers, AuthoritySerialAlone, BelowPathLength, CaWithoutSubjectKeyId, EmptyAuthorityKeyId, EmptySubjectKeyId, EndsAfterIssuer}
use Rattle.rule_table.specs.declared.rule.Rule.TheVariants.{KeyIdOfIssuer, KeyOfIssuer, PurposeBeyondIssuer, SelfIssuedAuthority, SubjectOfIssuer}
use Rattle.rule_table.specs.declared.rule.Rule.TheVariants.{NoAuthorityKeyId, NotStrictDer, PathLengthBeyondIssuer, SerialOfIssuer, StartsBeforeIssuer}

unfoldable pub statements_of : TbsCertificate → Statements
statements_of c = record { tbs = c; said = said_of (extensions_in c.extensions) }

-- ---- beside the issuer's certificate

-- its subject is its issuer (RFC 5280, 3.2)
abbrev pub is_self_issued : Statements → Bool
is_self_issued s = names.eq s.tbs.issuer s.tbs.subject

-- it begins before the issuer's certificate does: then no path with both is valid (RFC 5280, 4.1.2.5, 6.1.3 (a) (2))
abbrev pub starts_before : Statements → Statements → Bool
starts_before s issuer = is_earlier s.tbs.validity.not_before issuer.tbs.validity.not_before

-- it ends after the issuer's certificate does: the same
abbrev pub ends_after : Statements → Statements → Bool
ends_after s issuer = is_earlier issuer.tbs.validity.not_after s.tbs.validity.not_after

abbrev pub is_zero_there : Option (List ℕ) → Bool
is_zero_there None = false
is_zero_there (Some n) = is_zero n

abbrev pub ends_paths : Said → Bool
ends_paths s = is_zero_there (path_length_in s.constraints)

-- an authority below one under which none may be that isn't self-issued (RFC 5280, 4.2.1.9)
abbrev pub is_below_path_length : Statements → Statements → Bool
is_below_path_length s issuer = ends_paths issuer.said && is_authority s.said.constraints && not (is_self_issued s)

-- the identifier of its issuer's key is missing (RFC 5280, 4.2.1.1)
abbrev pub names_no_key : Statements → Bool
names_no_key s = not (is_some (key_identifier_in s.said.authority_key_id))

unfoldable pub validity_rules : Statements → Option Statements → List Rule
validity_rules s None = []
validity_rules s (Some issuer) =
    when (starts_before s issuer) StartsBeforeIssuer
    ++ when (ends_after s issuer) EndsAfterIssuer

-- where the issuer isn't known it may be the subject: only a self-signed certificate may lack the identifier of its key (RFC 5280, 4.2.1.1)
unfoldable pub place_rules : Statements → Option Statements → List Rule
place_rules s None = when (names_no_key s && not (is_self_issued s)) NoAuthorityKeyId
place_rules s (Some issuer) =
    when (is_below_path_length s issuer) BelowPathLength
    ++ when (names_no_key s) NoAuthorityKeyId

unfoldable pub issuer_rules : Statements → Option Statements → List Rule
issuer_rules s issuer = validity_rules s issuer ++ place_rules s issuer

-- an issuer gives each of its certificates another number, its own included (RFC 5280, 4.1.2.2)
abbrev pub has_serial_of : Statements → Statements → Bool
has_serial_of s issuer = is_self_issued issuer && same_integer s.tbs.serial_number issuer.tbs.serial_number

-- both are there, and not the same
abbrev pub differ : Option (List ℕ) → Option (List ℕ) → Bool
differ None b = false
differ (Some a) None = false
differ (Some a) (Some b) = not (bytes_eq a b)

-- the identifier of the issuer's key is the one that its certificate has (RFC 5280, 4.2.1.1)
abbrev pub names_other_key : Statements → Statements → Bool
names_other_key s issuer = differ (key_identifier_in s.said.authority_key_id) issuer.said.subject_key_id

-- both are there, the issuer's isn't 0, and its own isn't below it
abbrev pub is_not_below : Option (List ℕ) → Option (List ℕ) → Bool
is_not_below None issuer = false
is_not_below (Some own) None = false
is_not_below (Some own) (Some issuer) = not (is_zero issuer) && not (is_lt (int_cmp (signed own) (signed issuer)))

abbrev pub is_path_beyond : Statements → Statements → Bool
is_path_beyond s issuer = not (is_self_issued s) && is_not_below (path_length_in s.said.constraints) (path_length_in issuer.said.constraints)

unfoldable pub issuer_key_rules : Statements → Option Statements → List Rule
issuer_key_rules s None = []
issuer_key_rules s (Some issuer) =
    when (has_serial_of s issuer) SerialOfIssuer
    ++ when (names_other_key s issuer) AuthorityKeyIdDiffers
    ++ when (is_path_beyond s issuer) PathLengthBeyondIssuer

-- the issuer's certificate has purposes, not anyExtendedKeyUsage, and not this one
abbrev pub is_withheld : Option (List (List ℕ)) → List ℕ → Bool
is_withheld issuer purpose = is_some issuer && not (has_purpose ANY_PURPOSE.now issuer) && not (has_purpose purpose issuer)

abbrev pub lacks_purpose : Option (List (List ℕ)) → Option (List (List ℕ)) → Bool
lacks_purpose None issuer = false
lacks_purpose (Some own) issuer = list_any (is_withheld issuer) own

-- another subject with the issuer's name; an authority may change its key under its own name (RFC 5280, 3.2)
abbrev pub has_subject_of : Statements → Statements → Bool
has_subject_of s issuer = names.eq s.tbs.subject issuer.tbs.subject && not (is_authority s.said.constraints)

abbrev pub key_octets : TbsCertificate → List ℕ
key_octets c = c.subject_public_key_info.subject_public_key.bytes

abbrev pub has_key_of : Statements → Statements → Bool
has_key_of s issuer = bytes_eq (key_octets s.tbs) (key_octets issuer.tbs)

-- an authority with its issuer's name and another key: self-issued, so that it doesn't count in paths (RFC 5280, 4.2.1.9, 6.1)
abbrev pub is_self_issued_authority : Statements → Statements → Bool
is_self_issued_authority s issuer = is_self_issued s && is_authority s.said.constraints && not (has_key_of s issuer)

-- both are there, and the same
abbrev pub agree : Option (List ℕ) → Option (List ℕ) → Bool
agree None b = false
agree (Some a) None = false
agree (Some a) (Some b) = bytes_eq a b

-- the identifier of the issuer's key for another key: readers that look for an issuer by it find the wrong certificate (RFC 5280, 4.2.1.2)
abbrev pub has_key_id_of : Statements → Statements → Bool
has_key_id_of s issuer = agree s.said.subject_key_id issuer.said.subject_key_id && not (has_key_of s issuer)

unfoldable pub issuer_identity_rules : Statements → Option Statements → List Rule
issuer_identity_rules s None = []
issuer_identity_rules s (Some issuer) =
    when (lacks_purpose s.said.purposes issuer.said.purposes) PurposeBeyondIssuer
    ++ when (has_subject_of s issuer) SubjectOfIssuer
    ++ when (is_self_issued_authority s issuer) SelfIssuedAuthority
    ++ when (not (is_self_issued s) && has_key_of s issuer) KeyOfIssuer
    ++ when (has_key_id_of s issuer) KeyIdOfIssuer

-- name constraints don't apply to an authority that issues itself (RFC 5280, 4.2.1.10)
unfoldable pub name_rules : Statements → Option Statements → List Rule
name_rules s None = []
name_rules s (Some issuer) =
    cond (is_self_issued s && is_authority s.said.constraints) []
    (constrained_rules s.tbs.subject (extensions_in s.tbs.extensions) (extensions_in issuer.tbs.extensions))

unfoldable pub rules_by_issuer : Option Statements → List Rule
rules_by_issuer None = []
rules_by_issuer (Some issuer) = issuer_extension_rules (extensions_in issuer.tbs.extensions)

unfoldable pub beside_issuer : Statements → Option Statements → List Rule
beside_issuer s issuer = issuer_key_rules s issuer ++ issuer_identity_rules s issuer ++ rules_by_issuer issuer ++ name_rules s issuer

-- ---- identifiers of keys (RFC 5280, 4.2.1.1 and 4.2.1.2)

abbrev pub is_empty_id : Option (List ℕ) → Bool
is_empty_id None = false
is_empty_id (Some id) = length id == 0

-- the issuer's names without its serial number, or the other way round
abbrev pub has_half : Option AuthorityKeyIdentifier → Bool
has_half None = false
has_half (Some a) =
    (is_some a.authority_cert_issuer && not (is_some a.authority_cert_serial_number))
    || (is_some a.authority_cert_serial_number && not (is_some a.authority_cert_issuer))

unfoldable pub key_id_rules : List Extension → Said → List Rule
key_id_rules es s =
    when (is_authority s.constraints && not (is_some (ce_extension ce_subject_key_identifier es))) CaWithoutSubjectKeyId
    ++ when (is_empty_id s.subject_key_id) EmptySubjectKeyId
    ++ when (is_empty_id (key_identifier_in s.authority_key_id)) EmptyAuthorityKeyId
    ++ when (has_half s.authority_key_id) AuthoritySerialAlone

-- ---- of the issuer's certificate, for lists and attribute certificates

abbrev pub key_id_of : Certificate → Option (List ℕ)
key_id_of c = said octet_string (ce_extension ce_subject_key_identifier (extensions_in c.tbs_certificate.extensions))

unfoldable pub issuer_key_id : Option (List ℕ) → Option (List ℕ)
issuer_key_id octets = octets >>= λ octets. value_of certificate octets >>= λ c. key_id_of c

-- ---- of octets

unfoldable pub rules_of : Statements → Option Statements → List Rule
rules_of s issuer =
    issuer_rules s issuer
    ++ shared_rules s.tbs.subject (extensions_in s.tbs.extensions) s.said s.tbs.subject_public_key_info
    ++ frame_rules s.tbs
    ++ key_id_rules (extensions_in s.tbs.extensions) s.said
    ++ beside_issuer s issuer

-- what the issuer's certificate says, where it is there and can be read
unfoldable pub issuer_statements : Option (List ℕ) → Option Statements
issuer_statements octets = octets >>= λ octets. value_of certificate octets >>= λ c. Some (statements_of c.tbs_certificate)

abbrev pub certificate_found : Bool → Option TbsCertificate → Option Statements → List Rule
certificate_found strict None issuer = []
certificate_found strict (Some c) issuer = rules_of (statements_of c) issuer ++ when (not strict) NotStrictDer

-- of the certificate to be signed, beside that of its issuer, if any; none where the octets can't be read
unfoldable pub certificate_rules : List ℕ → Option (List ℕ) → List Rule
certificate_rules message issuer = certificate_found (is_strict message) (value_of tbs_certificate message) (issuer_statements issuer)
