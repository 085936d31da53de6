-- What is written of each rule: what is wrong where it is broken, the standard and section, and its identifier.
use Rattle.std.specs.Prelude.{List, codes, ℕ}
use Rattle.rule_table.specs.declared.rule.Rule.{Rule}
use Rattle.rule_table.specs.declared.rule.Rule.TheVariants.{AccessUri, AddressLength, AltNameTwice, AnyPolicyMapped, AnyPurpose}
use Rattle.rule_table.specs.declared.rule.Rule.TheVariants.{AnyPurposeCritical, AttributeIssuerForm, AttributeTwice}
use Rattle.rule_table.specs.declared.rule.Rule.TheVariants.{AttributeVersion, AttributeWithoutValues, AuthorityKeyIdDiffers}
use Rattle.rule_table.specs.declared.rule.Rule.TheVariants.{AuthoritySerialAlone, BelowPathLength, CaWithoutCertSign}
use Rattle.rule_table.specs.declared.rule.Rule.TheVariants.{CaWithoutSubjectKeyId, CertSignWithoutCa, ControlCharacter}
use Rattle.rule_table.specs.declared.rule.Rule.TheVariants.{CriticalAltNames, CriticalAuthorityInfoAccess, CriticalAuthorityKeyId}
use Rattle.rule_table.specs.declared.rule.Rule.TheVariants.{CriticalCrlNumber, CriticalCrlPoints, CriticalDirectoryAttributes}
use Rattle.rule_table.specs.declared.rule.Rule.TheVariants.{CriticalFreshestCrl, CriticalIssuerAltNames, CriticalNoRevocation}
use Rattle.rule_table.specs.declared.rule.Rule.TheVariants.{CriticalSubjectInfoAccess, CriticalSubjectKeyId, CrlNumberForm}
use Rattle.rule_table.specs.declared.rule.Rule.TheVariants.{CrlPointUri, CrlPointWithoutName, DnsAddress, DnsCharacter}
use Rattle.rule_table.specs.declared.rule.Rule.TheVariants.{DnsEmptyLabel, DnsHyphen, DnsLongLabel, DnsLongName, DnsTopWildcard}
use Rattle.rule_table.specs.declared.rule.Rule.TheVariants.{DnsUnderscore, DnsWildcard, EcParameters, EdParameters, EmptyAccess}
use Rattle.rule_table.specs.declared.rule.Rule.TheVariants.{EmptyAltNames, EmptyAuthorityKeyId, EmptyCrlPoints, EmptyHolderName}
use Rattle.rule_table.specs.declared.rule.Rule.TheVariants.{EmptyIssuer, EmptyIssuingPoint, EmptyKeyUsage, EmptyNameConstraints, EmptyOtherName}
use Rattle.rule_table.specs.declared.rule.Rule.TheVariants.{EmptyPolicies, EmptyPolicyConstraints, EmptyPurposes, EmptySubject}
use Rattle.rule_table.specs.declared.rule.Rule.TheVariants.{EmptySubjectKeyId, EmptyText, EncipherAndDecipherOnly}
use Rattle.rule_table.specs.declared.rule.Rule.TheVariants.{EncipherWithoutAgreement, EndsAfterIssuer, EntryTwice, ExtensionNotDer}
use Rattle.rule_table.specs.declared.rule.Rule.TheVariants.{ExtensionTwice, ExtensionsWithoutV3, HolderForms, HolderNameForm}
use Rattle.rule_table.specs.declared.rule.Rule.TheVariants.{InvalidAfterRevoked, IssuerPolicies, IssuerPurposes, IssuingPointFlags, IssuingPointUri, KeyIdOfIssuer, KeyOfIssuer, PrincipalName}
use Rattle.rule_table.specs.declared.rule.Rule.TheVariants.{KeyUsageOfEc, KeyUsageOfEd, KeyUsageOfRsa, ListEmptyIssuer}
use Rattle.rule_table.specs.declared.rule.Rule.TheVariants.{ListVersion, ListWithoutKeyId, MailboxForm, NameConstraintsWithoutCa}
use Rattle.rule_table.specs.declared.rule.Rule.TheVariants.{NameExcluded, NameNotCompared, NameNotPermitted, NegativeSkipCerts}
use Rattle.rule_table.specs.declared.rule.Rule.TheVariants.{NextUpdateNotLater, NoAltNames, NoAttributes, NoAuthorityKeyId}
use Rattle.rule_table.specs.declared.rule.Rule.TheVariants.{NoCrlNumber, NoNextUpdate, NotStrictDer, OcspWithoutNoCheck}
use Rattle.rule_table.specs.declared.rule.Rule.TheVariants.{OddCountry, OddIa5Text, OddPrintableText, OddText, OldTextKind}
use Rattle.rule_table.specs.declared.rule.Rule.TheVariants.{PathLengthBeyondIssuer, PathLengthNegative, PathLengthWithoutCa}
use Rattle.rule_table.specs.declared.rule.Rule.TheVariants.{PathLengthWithoutCertSign, PolicyTwice, PurposeBeyondIssuer}
use Rattle.rule_table.specs.declared.rule.Rule.TheVariants.{PurposeTwice, PurposesWithoutUsage, ReasonUnspecified}
use Rattle.rule_table.specs.declared.rule.Rule.TheVariants.{RemoveFromComplete, RequestVersion, RevokedAfterUpdate, RsaExponent}
use Rattle.rule_table.specs.declared.rule.Rule.TheVariants.{PointOffCurve, RsaExponentSize, SubtreePeriod, WeakKey}
use Rattle.rule_table.specs.declared.rule.Rule.TheVariants.{RsaParameters, SerialNotPositive, SerialOfIssuer, SerialTooLong}
use Rattle.rule_table.specs.declared.rule.Rule.TheVariants.{SelfIssuedAuthority, ShortRsaKey, SignatureParameters, StartsBeforeIssuer, SubjectOfIssuer}
use Rattle.rule_table.specs.declared.rule.Rule.TheVariants.{SubtreeAddress, SubtreeDistance, SubtreeMailbox, TextTooLong, TimeForm}
use Rattle.rule_table.specs.declared.rule.Rule.TheVariants.{TimeFraction, TimeStampingNotAlone, UncriticalAuditIdentity}
use Rattle.rule_table.specs.declared.rule.Rule.TheVariants.{UncriticalBasicConstraints, UncriticalDeltaIndicator}
use Rattle.rule_table.specs.declared.rule.Rule.TheVariants.{UncriticalInhibitAnyPolicy, UncriticalIssuingPoint, UncriticalKeyUsage}
use Rattle.rule_table.specs.declared.rule.Rule.TheVariants.{UncriticalNameConstraints, UncriticalPolicyConstraints}
use Rattle.rule_table.specs.declared.rule.Rule.TheVariants.{UncriticalPolicyMappings, UncriticalTargets, UniqueIdentifiers}
use Rattle.rule_table.specs.declared.rule.Rule.TheVariants.{UnknownCriticalEntry, UnknownCriticalExtension, UnknownKeyUsage}
use Rattle.rule_table.specs.declared.rule.Rule.TheVariants.{UnknownVersion, UnreadableExtension, UnreadableKey, UriCharacter}
use Rattle.rule_table.specs.declared.rule.Rule.TheVariants.{UriRelative, UriWithoutHost, ValidityReversed, YearZero}

unfoldable pub text : Rule → List ℕ
text StartsBeforeIssuer =
    codes "start: before the start of the issuer's certificate (RFC 5280, 6.1.3 (a)) [starts_before_issuer]"
text EndsAfterIssuer =
    codes "not_after: after the end of the issuer's certificate (RFC 5280, 6.1.3 (a)) [ends_after_issuer]"
text BelowPathLength =
    codes "ca: the issuer's certificate has path length 0, so it can't issue an authority's certificate (RFC 5280, 4.2.1.9) [below_path_length]"
text NoAuthorityKeyId =
    codes "authority_key_id: missing, so readers find the issuer by its name alone (RFC 5280, 4.2.1.1) [no_authority_key_id]"
text EmptySubject =
    codes "subject: empty; only a subject that isn't an authority and doesn't sign CRLs may have no name, with critical alternative names (RFC 5280, 4.1.2.6) [empty_subject]"
text CertSignWithoutCa =
    codes "key_usages: keyCertSign is for authorities, and the subject isn't one (RFC 5280, 4.2.1.3) [cert_sign_without_ca]"
text CaWithoutCertSign = codes "key_usages: an authority needs keyCertSign (RFC 5280, 4.2.1.3) [ca_without_cert_sign]"
text PathLengthWithoutCa =
    codes "ca: a path length is for authorities, and the subject isn't one (RFC 5280, 4.2.1.9) [path_length_without_ca]"
text NameConstraintsWithoutCa =
    codes "permitted, excluded: name constraints are for authorities, and the subject isn't one (RFC 5280, 4.2.1.10) [name_constraints_without_ca]"
text ExtensionTwice = codes "extensions: the same extension twice (RFC 5280, 4.2) [extension_twice]"
text NoAltNames = codes "alt_names: missing; clients look for a server's name only there (RFC 9525, 2) [no_alt_names]"
text OddCountry =
    codes "subject: a country must be a PrintableString of two characters; in an order, C:printable=DE (RFC 5280, A.1) [odd_country]"
text OddIa5Text =
    codes "subject: a domain component or e-mail address must be an IA5String; in an order, TYPE:ia5=value (RFC 5280, A.1) [odd_ia5_text]"
text OddPrintableText =
    codes "subject: a serial number or qualifier must be a PrintableString; in an order, TYPE:printable=value (RFC 5280, A.1) [odd_printable_text]"
text OddText =
    codes "subject: a common name, organization, locality or the like must be a UTF8String or PrintableString (a DirectoryString) (RFC 5280, A.1) [odd_text]"
text EmptyText = codes "subject: an attribute without a character (RFC 5280, A.1) [empty_text]"
text TextTooLong =
    codes "subject: more characters than the type allows: 64 in a common name, organization, unit or title, 128 in a locality, state or pseudonym (RFC 5280, A.1) [text_too_long]"
text OldTextKind =
    codes "subject: TeletexString, BMPString and UniversalString are obsolete; use UTF8String or PrintableString (RFC 5280, 4.1.2.4) [old_text_kind]"
text RsaParameters = codes "key: the parameters of an RSA key must be NULL (RFC 3279, 2.3.1) [rsa_parameters]"
text EcParameters =
    codes "key: the parameters of an elliptic curve key must be the identifier of a curve (RFC 5480, 2.1.1) [ec_parameters]"
text EdParameters = codes "key: an Ed25519 or Ed448 key must have no parameters (RFC 8410, 3) [ed_parameters]"
text UnreadableKey =
    codes "key: its octets aren't a key of its algorithm (RFC 3279, 2.3.1; RFC 5480, 2.2; RFC 8410, 4) [unreadable_key]"
text ShortRsaKey = codes "key: an RSA modulus of fewer than 2048 bits is weak (NIST SP 800-131A, 3) [short_rsa_key]"
text RsaExponent =
    codes "key: an RSA exponent and modulus must be odd and greater than 1 (RFC 8017, 3.1) [rsa_exponent]"
text RsaExponentSize =
    codes "key: an RSA exponent must be greater than 2^16 and less than 2^256 (FIPS 186-5, A.1.1) [rsa_exponent_size]"
text PointOffCurve =
    codes "key: not an uncompressed point of its curve; a compressed one can't be checked here (SEC 1, 3.2.2.1) [point_off_curve]"
text UnreadableExtension =
    codes "extensions: the contents of an extension aren't the DER of the type that its identifier has (RFC 5280, 4.2) [unreadable_extension]"
text ExtensionNotDer = codes "extensions: the contents of an extension aren't DER (RFC 5280, 4.2) [extension_not_der]"
text UnknownCriticalExtension =
    codes "extensions: a critical extension that isn't known here; readers that don't know it reject the certificate (RFC 5280, 4.2) [unknown_critical_extension]"
text CriticalAuthorityKeyId =
    codes "authority_key_id: must not be critical (RFC 5280, 4.2.1.1) [critical_authority_key_id]"
text CriticalSubjectKeyId =
    codes "key_id: the subject key identifier must not be critical (RFC 5280, 4.2.1.2) [critical_subject_key_id]"
text UncriticalKeyUsage = codes "key_usages: should be critical (RFC 5280, 4.2.1.3) [uncritical_key_usage]"
text CriticalAltNames =
    codes "alt_names: should not be critical, since the subject isn't empty (RFC 5280, 4.2.1.6) [critical_alt_names]"
text CriticalIssuerAltNames =
    codes "issuer's alternative names: should not be critical (RFC 5280, 4.2.1.7) [critical_issuer_alt_names]"
text CriticalDirectoryAttributes =
    codes "subject directory attributes: must not be critical (RFC 5280, 4.2.1.8) [critical_directory_attributes]"
text UncriticalBasicConstraints =
    codes "ca: an authority's basic constraints must be critical (RFC 5280, 4.2.1.9) [uncritical_basic_constraints]"
text UncriticalNameConstraints =
    codes "permitted, excluded: name constraints must be critical (RFC 5280, 4.2.1.10) [uncritical_name_constraints]"
text UncriticalPolicyMappings =
    codes "policy mappings: should be critical (RFC 5280, 4.2.1.5) [uncritical_policy_mappings]"
text UncriticalPolicyConstraints =
    codes "policy constraints: must be critical (RFC 5280, 4.2.1.11) [uncritical_policy_constraints]"
text UncriticalInhibitAnyPolicy =
    codes "inhibit_any_policy: must be critical (RFC 5280, 4.2.1.14) [uncritical_inhibit_any_policy]"
text CriticalCrlPoints = codes "crl_points: should not be critical (RFC 5280, 4.2.1.13) [critical_crl_points]"
text CriticalFreshestCrl = codes "freshest CRL: must not be critical (RFC 5280, 4.2.1.15) [critical_freshest_crl]"
text CriticalAuthorityInfoAccess =
    codes "ca_issuers, ocsp: authority information access must not be critical (RFC 5280, 4.2.2.1) [critical_authority_info_access]"
text CriticalSubjectInfoAccess =
    codes "subject information access: must not be critical (RFC 5280, 4.2.2.2) [critical_subject_info_access]"
text PathLengthNegative = codes "ca: a path length below 0 (RFC 5280, 4.2.1.9) [path_length_negative]"
text PathLengthWithoutCertSign =
    codes "ca: a path length is for keys with keyCertSign (RFC 5280, 4.2.1.9) [path_length_without_cert_sign]"
text EmptyKeyUsage = codes "key_usages: the extension has no usage (RFC 5280, 4.2.1.3) [empty_key_usage]"
text UnknownKeyUsage = codes "key_usages: only bits 0 to 8 have a meaning (RFC 5280, 4.2.1.3) [unknown_key_usage]"
text EncipherWithoutAgreement =
    codes "key_usages: encipherOnly and decipherOnly have no meaning without keyAgreement (RFC 5280, 4.2.1.3) [encipher_without_agreement]"
text EncipherAndDecipherOnly =
    codes "key_usages: encipherOnly and decipherOnly exclude each other (RFC 5480, 3) [encipher_and_decipher_only]"
text KeyUsageOfRsa =
    codes "key_usages: keyAgreement, encipherOnly and decipherOnly aren't for RSA keys (RFC 3279, 2.3.1) [key_usage_of_rsa]"
text KeyUsageOfEc =
    codes "key_usages: keyEncipherment and dataEncipherment aren't for elliptic curve keys (RFC 8813, 3) [key_usage_of_ec]"
text KeyUsageOfEd =
    codes "key_usages: an Ed25519 or Ed448 key may have only digitalSignature, nonRepudiation, keyCertSign and cRLSign (RFC 9295, 3) [key_usage_of_ed]"
text EmptyPurposes = codes "extended_key_usages: the extension has no purpose (RFC 5280, 4.2.1.12) [empty_purposes]"
text PurposeTwice = codes "extended_key_usages: the same purpose twice (RFC 5280, 4.2.1.12) [purpose_twice]"
text AnyPurposeCritical =
    codes "extended_key_usages: should not be critical with anyExtendedKeyUsage (RFC 5280, 4.2.1.12) [any_purpose_critical]"
text AnyPurpose =
    codes "extended_key_usages: anyExtendedKeyUsage allows the key for every purpose (RFC 5280, 4.2.1.12) [any_purpose]"
text OcspWithoutNoCheck =
    codes "extended_key_usages: OCSPSigning lets the subject answer for the issuer; an OCSP responder's certificate has the extension ocsp-nocheck (1.3.6.1.5.5.7.48.1.5) (RFC 6960, 4.2.2.2) [ocsp_without_no_check]"
text TimeStampingNotAlone =
    codes "extended_key_usages: timeStamping must be the only purpose, in a critical extension (RFC 3161, 2.3) [time_stamping_not_alone]"
text PurposesWithoutUsage =
    codes "extended_key_usages: none of the key usages serves one of the purposes (RFC 5280, 4.2.1.12) [purposes_without_usage]"
text EmptyAltNames = codes "alt_names: the extension has no name (RFC 5280, 4.2.1.6) [empty_alt_names]"
text ControlCharacter = codes "alt_names: a control character in a name (RFC 5280, 4.2.1.6) [control_character]"
text DnsEmptyLabel =
    codes "alt_names: a DNS name with an empty label: it is empty, begins or ends with a dot, or has two dots in a row (RFC 5280, 4.2.1.6; RFC 1034, 3.5) [dns_empty_label]"
text DnsCharacter =
    codes "alt_names: a DNS name may have only letters, digits, hyphens and dots (RFC 5280, 4.2.1.6; RFC 1034, 3.5) [dns_character]"
text DnsUnderscore =
    codes "alt_names: a DNS name with an underscore isn't a host's name (RFC 5280, 4.2.1.6; RFC 1034, 3.5) [dns_underscore]"
text DnsHyphen =
    codes "alt_names: a label of a DNS name begins or ends with a hyphen (RFC 5280, 4.2.1.6; RFC 1034, 3.5) [dns_hyphen]"
text DnsLongLabel =
    codes "alt_names: a label of a DNS name has more than 63 octets (RFC 5280, 4.2.1.6; RFC 1034, 3.1) [dns_long_label]"
text DnsLongName =
    codes "alt_names: a DNS name has more than 253 octets (RFC 5280, 4.2.1.6; RFC 1034, 3.1) [dns_long_name]"
text DnsWildcard =
    codes "alt_names: an asterisk may only be the whole first label of a DNS name (RFC 9525, 6.3) [dns_wildcard]"
text DnsTopWildcard =
    codes "alt_names: a wildcard for each name below a top-level domain (RFC 9525, 6.3; RFC 6125, 7.2) [dns_top_wildcard]"
text DnsAddress =
    codes "alt_names: a DNS name that ends in a number; an IP address is written ip:ADDRESS (RFC 5280, 4.2.1.6; RFC 1123, 2.1) [dns_address]"
text MailboxForm =
    codes "alt_names: an e-mail address must be LOCAL@HOST (RFC 5280, 4.2.1.6; RFC 5321, 4.1.2) [mailbox_form]"
text UriCharacter =
    codes "alt_names: a URI must not have blanks or characters outside of ASCII (RFC 5280, 4.2.1.6; RFC 3986, 2) [uri_character]"
text UriRelative =
    codes "alt_names: a URI must have a scheme, and something after it (RFC 5280, 4.2.1.6) [uri_relative]"
text UriWithoutHost = codes "alt_names: a URI with // must have a host after it (RFC 5280, 4.2.1.6) [uri_without_host]"
text AddressLength = codes "alt_names: an IP address must have 4 or 16 octets (RFC 5280, 4.2.1.6) [address_length]"
text PrincipalName =
    codes "alt_names: a principal name, by which Windows or Kerberos logs its holder on (RFC 4556, 3.2.2) [principal_name]"
text EmptyOtherName = codes "alt_names: another name with an empty text (RFC 5280, 4.2.1.6) [empty_other_name]"
text AltNameTwice = codes "alt_names: the same name twice (RFC 5280, 4.2.1.6) [alt_name_twice]"
text EmptyNameConstraints =
    codes "permitted, excluded: name constraints without a subtree (RFC 5280, 4.2.1.10) [empty_name_constraints]"
text SubtreeDistance =
    codes "permitted, excluded: a subtree must have minimum 0 and no maximum (RFC 5280, 4.2.1.10) [subtree_distance]"
text SubtreeAddress =
    codes "permitted, excluded: a network must have 8 or 32 octets, an address and its mask (RFC 5280, 4.2.1.10) [subtree_address]"
text SubtreeMailbox =
    codes "permitted, excluded: an e-mail subtree must be LOCAL@HOST, HOST or .HOST (RFC 5280, 4.2.1.10) [subtree_mailbox]"
text SubtreePeriod =
    codes "permitted, excluded: a DNS subtree that begins with a period, which some readers reject (RFC 5280, 4.2.1.10) [subtree_period]"
text EmptyPolicies = codes "policies: the extension has no policy (RFC 5280, 4.2.1.4) [empty_policies]"
text PolicyTwice = codes "policies: the same policy twice (RFC 5280, 4.2.1.4) [policy_twice]"
text AnyPolicyMapped = codes "policy mappings: anyPolicy must not be mapped (RFC 5280, 4.2.1.5) [any_policy_mapped]"
text EmptyPolicyConstraints =
    codes "policy constraints: neither of the two numbers (RFC 5280, 4.2.1.11) [empty_policy_constraints]"
text NegativeSkipCerts =
    codes "policy constraints, inhibit_any_policy: a number of certificates below 0 (RFC 5280, 4.2.1.11, 4.2.1.14) [negative_skip_certs]"
text EmptyCrlPoints =
    codes "crl_points: the extension has no distribution point (RFC 5280, 4.2.1.13) [empty_crl_points]"
text CrlPointWithoutName =
    codes "crl_points: a distribution point must have a name or the issuer of its CRL (RFC 5280, 4.2.1.13) [crl_point_without_name]"
text CrlPointUri =
    codes "crl_points: a URI must have a scheme, a host after //, and only characters of URIs, or readers reject the certificate (RFC 5280, 4.2.1.13) [crl_point_uri]"
text EmptyAccess = codes "ca_issuers, ocsp: the extension has no location (RFC 5280, 4.2.2.1) [empty_access]"
text AccessUri = codes "ca_issuers, ocsp: a URI must have a scheme, a host after //, and only characters of URIs (RFC 5280, 4.2.2.1) [access_uri]"
text EmptyIssuer = codes "issuer: its name is empty (RFC 5280, 4.1.2.4) [empty_issuer]"
text UnknownVersion = codes "version: not 1, 2 or 3 (RFC 5280, 4.1.2.1) [unknown_version]"
text ExtensionsWithoutV3 =
    codes "version: a certificate with extensions must have version 3 (RFC 5280, 4.1.2.1) [extensions_without_v3]"
text UniqueIdentifiers =
    codes "unique identifiers: a certificate must not have one (RFC 5280, 4.1.2.8) [unique_identifiers]"
text SerialNotPositive = codes "serial: must be greater than 0 (RFC 5280, 4.1.2.2) [serial_not_positive]"
text SerialTooLong = codes "serial: more than 20 octets (RFC 5280, 4.1.2.2) [serial_too_long]"
text ValidityReversed = codes "not_after: before the start (RFC 5280, 4.1.2.5; RFC 5755, 4.2.6) [validity_reversed]"
text TimeForm = codes "times: a year from 1950 to 2049 must be written as UTCTime (RFC 5280, 4.1.2.5) [time_form]"
text TimeFraction = codes "times: a fraction of a second (RFC 5280, 4.1.2.5.2; RFC 5755, 4.2.6) [time_fraction]"
text YearZero = codes "times: the year 0, which readers reject (RFC 5280, 4.1.2.5.2) [year_zero]"
text SignatureParameters =
    codes "signature: the parameters of its algorithm must be NULL for RSA, and absent for ECDSA and EdDSA (RFC 3279, 2.2.1; RFC 5758, 3.2; RFC 8410, 3) [signature_parameters]"
text CaWithoutSubjectKeyId =
    codes "key_id: an authority's certificate must have a subject key identifier (RFC 5280, 4.2.1.2) [ca_without_subject_key_id]"
text EmptySubjectKeyId =
    codes "key_id: a subject key identifier without octets (RFC 5280, 4.2.1.2) [empty_subject_key_id]"
text EmptyAuthorityKeyId =
    codes "key_id: an authority key identifier without octets (RFC 5280, 4.2.1.1) [empty_authority_key_id]"
text AuthoritySerialAlone =
    codes "authority_key_id: the issuer's name and serial number must both be there, or neither (RFC 5280, 4.2.1.1) [authority_serial_alone]"
text SerialOfIssuer =
    codes "serial: the same as that of the issuer's certificate, which the same authority signed (RFC 5280, 4.1.2.2) [serial_of_issuer]"
text AuthorityKeyIdDiffers =
    codes "key_id: the authority key identifier isn't the subject key identifier of the issuer's certificate (RFC 5280, 4.2.1.1) [authority_key_id_differs]"
text PathLengthBeyondIssuer =
    codes "ca: the path length isn't smaller than that of the issuer's certificate, which ends paths earlier (RFC 5280, 4.2.1.9) [path_length_beyond_issuer]"
text NameNotPermitted =
    codes "alt_names, subject: a name outside of the subtrees that the issuer's certificate permits (RFC 5280, 4.2.1.10) [name_not_permitted]"
text NameExcluded =
    codes "alt_names, subject: a name within a subtree that the issuer's certificate excludes (RFC 5280, 4.2.1.10) [name_excluded]"
text NameNotCompared =
    codes "alt_names, subject: a name that can't be compared with a subtree of the issuer's certificate, so readers reject it (RFC 5280, 4.2.1.10) [name_not_compared]"
text PurposeBeyondIssuer =
    codes "extended_key_usages: a purpose that the issuer's certificate doesn't have (RFC 5280, 4.2.1.12) [purpose_beyond_issuer]"
text SubjectOfIssuer = codes "subject: the same as the issuer's (RFC 5280, 4.1.2.6) [subject_of_issuer]"
text SelfIssuedAuthority =
    codes "subject: the same as the issuer's, with another key; no path length or name constraint limits such an authority, so it must be the issuer itself (RFC 5280, 6.1, 4.2.1.9) [self_issued_authority]"
text KeyOfIssuer = codes "key: the same as the issuer's (RFC 5280, 4.1.2.7) [key_of_issuer]"
text KeyIdOfIssuer =
    codes "key_id: the same as the issuer's, though the key is another (RFC 5280, 4.2.1.2) [key_id_of_issuer]"
text IssuerPolicies =
    codes "policies: the issuer's certificate maps anyPolicy or has a policy twice, so no path through it is valid (RFC 5280, 4.2.1.4, 6.1.4 (a)) [issuer_policies]"
text IssuerPurposes =
    codes "purposes: those of the issuer's certificate can't be read (RFC 5280, 4.2.1.12) [issuer_purposes]"
text RequestVersion = codes "version: a request must have version 1 (RFC 2986, 4.1) [request_version]"
text ListVersion = codes "version: must be 2, and must be there where a CRL has extensions (RFC 5280, 5.1, 5.1.2.1) [list_version]"
text ListEmptyIssuer = codes "issuer: its name is empty (RFC 5280, 5.1.2.3) [list_empty_issuer]"
text NoNextUpdate = codes "next_update: missing (RFC 5280, 5.1.2.5) [no_next_update]"
text NextUpdateNotLater = codes "next_update: not after this_update (RFC 5280, 5.1.2.5) [next_update_not_later]"
text UncriticalIssuingPoint =
    codes "points, scope: the issuing distribution point must be critical (RFC 5280, 5.2.5) [uncritical_issuing_point]"
text ListWithoutKeyId =
    codes "key_id: a CRL must have an authority key identifier (RFC 5280, 5.2.1) [list_without_key_id]"
text NoCrlNumber = codes "number: missing (RFC 5280, 5.2.3) [no_crl_number]"
text CrlNumberForm = codes "number: must not be below 0 or have more than 20 octets (RFC 5280, 5.2.3) [crl_number_form]"
text CriticalCrlNumber = codes "number: must not be critical (RFC 5280, 5.2.3) [critical_crl_number]"
text UncriticalDeltaIndicator =
    codes "extensions: the delta CRL indicator must be critical (RFC 5280, 5.2.4) [uncritical_delta_indicator]"
text EmptyIssuingPoint =
    codes "points, scope: an issuing distribution point without contents (RFC 5280, 5.2.5) [empty_issuing_point]"
text IssuingPointFlags =
    codes "scope: at most one of users, authorities and attributes (RFC 5280, 5.2.5) [issuing_point_flags]"
text IssuingPointUri =
    codes "points: a URI must have a scheme, a host after //, and only characters of URIs, or readers reject the CRL (RFC 5280, 5.2.5) [issuing_point_uri]"
text EntryTwice = codes "revoked: the same serial number twice (RFC 5280, 5.3) [entry_twice]"
text RevokedAfterUpdate =
    codes "revoked: a certificate that is revoked after this_update (RFC 5280, 5.1.2.6) [revoked_after_update]"
text ReasonUnspecified =
    codes "revoked: the reason unspecified should be left out (RFC 5280, 5.3.1) [reason_unspecified]"
text RemoveFromComplete = codes "revoked: removeFromCRL is for delta CRLs (RFC 5280, 5.3.1) [remove_from_complete]"
text InvalidAfterRevoked =
    codes "revoked: a key that became invalid after its certificate was revoked (RFC 5280, 5.3.2) [invalid_after_revoked]"
text UnknownCriticalEntry =
    codes "revoked: a critical extension of an entry that isn't known here; readers that don't know it reject the CRL (RFC 5280, 5.3) [unknown_critical_entry]"
text AttributeVersion =
    codes "version: an attribute certificate must have version 2 (RFC 5755, 4.2.1) [attribute_version]"
text HolderForms = codes "holder: exactly one way to name the holder (RFC 5755, 4.2.2) [holder_forms]"
text EmptyHolderName = codes "holder: an empty name (RFC 5755, 4.2.2) [empty_holder_name]"
text HolderNameForm =
    codes "holder: an attribute of its name isn't of the kind or length that its type has (RFC 5755, 4.2.2; RFC 5280, A.1) [holder_name_form]"
text AttributeIssuerForm =
    codes "issuer: must be one directory name that isn't empty (RFC 5755, 4.2.3) [attribute_issuer_form]"
text NoAttributes = codes "attributes: missing (RFC 5755, 4.2.7) [no_attributes]"
text AttributeTwice = codes "attributes: the same type twice (RFC 2986, 4.1; RFC 5755, 4.2.7) [attribute_twice]"
text AttributeWithoutValues =
    codes "attributes: an attribute without values (RFC 2986, 4.1; RFC 5755, 4.2.7) [attribute_without_values]"
text UncriticalTargets = codes "targets: must be critical (RFC 5755, 4.3.2) [uncritical_targets]"
text UncriticalAuditIdentity = codes "audit identity: must be critical (RFC 5755, 4.3.1) [uncritical_audit_identity]"
text CriticalNoRevocation = codes "no_revocation: must not be critical (RFC 5755, 4.3.6) [critical_no_revocation]"
text NotStrictDer = codes "encoding: an element isn't DER (RFC 5280, 4.1; X.690, 8 to 11) [not_strict_der]"
text WeakKey =
    codes "key: weak or the issuer's, as the lines above say; an order with weak_key = true takes it (RFC 5280, 8) [weak_key]"
