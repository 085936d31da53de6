-- The rules that a revocation list breaks (RFC 5280, 5).
use Rattle.std.specs.Prelude.{Bool, List, None, Option, Some, [], false, is_some, length, nat_lt, not, ℕ, ◌&&◌, ◌++◌, ◌==◌, ◌||◌}
use Rattle.std.specs.List.{list_any}
use Rattle.asn1_core.specs.Twos.{is_negative}
use Rattle.der_tree.specs.Form.{value_of}
use Rattle.der_tree.specs.PrimitiveTypes.{integer}
use Rattle.pkix_cert.specs.Distributions.{issuing_distribution_point}
use Rattle.pkix_cert.specs.ExtensionIds.{ce_authority_key_identifier, ce_crl_number, ce_delta_crl_indicator, ce_issuing_distribution_point, id_ce}
use Rattle.pkix_cert.specs.Held.{extensions_in}
use Rattle.pkix_cert.specs.KeyIdentifiers.{authority_key_identifier}
use Rattle.pkix_cert.specs.Revocations.{tbs_cert_list}
use Rattle.pkix_cert.specs.Versions.{raw_value}
use Rattle.pkix_cert.specs.declared.certificate.Version.{Version}
use Rattle.pkix_cert.specs.declared.distribution.IssuingDistributionPoint.{IssuingDistributionPoint}
use Rattle.pkix_cert.specs.declared.extension.Extension.{Extension}
use Rattle.pkix_cert.specs.declared.revocation.TbsCertList.{TbsCertList}
use Rattle.pkix_cert.specs.declared.time.Time.{Time}
use Rattle.strict_der.specs.Strict.{is_strict}
use Rattle.pkix_rules.specs.Certificates.{differ, is_empty_id, issuer_key_id}
use Rattle.pkix_rules.specs.Contents.{is_loose}
use Rattle.pkix_rules.specs.Entries.{entry_rules, has_extensions}
use Rattle.pkix_rules.specs.Extensions.{has_critical, has_uncritical, is_critical_stranger, is_unreadable, repeats_any, said}
use Rattle.pkix_rules.specs.Frames.{has_fraction, has_wrong_form, is_earlier}
use Rattle.pkix_rules.specs.Keys.{has_bad_parameters}
use Rattle.pkix_rules.specs.Names.{is_empty_name}
use Rattle.pkix_rules.specs.Points.{has_bad_name}
use Rattle.pkix_rules.specs.Said.{ce_extension, key_identifier_in}
use Rattle.pkix_rules.specs.Identifiers.{known_list_extensions}
use Rattle.rule_table.specs.Found.{when}
use Rattle.rule_table.specs.declared.rule.Rule.{Rule}
use Rattle.rule_table.specs.declared.rule.Rule.TheVariants.{AuthorityKeyIdDiffers, CriticalAuthorityKeyId, CriticalCrlNumber, CrlNumberForm, EmptyAuthorityKeyId, EmptyIssuingPoint, ExtensionNotDer, ExtensionTwice}
use Rattle.rule_table.specs.declared.rule.Rule.TheVariants.{IssuingPointFlags, IssuingPointUri, ListEmptyIssuer, ListVersion, ListWithoutKeyId, NextUpdateNotLater, NoCrlNumber}
use Rattle.rule_table.specs.declared.rule.Rule.TheVariants.{NoNextUpdate, NotStrictDer, SignatureParameters, TimeForm, TimeFraction, UncriticalDeltaIndicator, UncriticalIssuingPoint}
use Rattle.rule_table.specs.declared.rule.Rule.TheVariants.{UnknownCriticalExtension, UnreadableExtension}

-- 1 is version 2, the only one that is written, and has to be where there are extensions (5.1, 5.1.2.1)
abbrev pub is_version_2 : Option Version → Bool
is_version_2 None = false
is_version_2 (Some v) = raw_value v == 1

-- ---- times (5.1.2.4 to 5.1.2.6)

abbrev pub is_not_later : Option Time → Time → Bool
is_not_later None this_update = false
is_not_later (Some next) this_update = not (is_earlier this_update next)

abbrev pub has_odd_form : Option Time → Bool
has_odd_form None = false
has_odd_form (Some t) = has_wrong_form t

abbrev pub has_parts : Option Time → Bool
has_parts None = false
has_parts (Some t) = has_fraction t

unfoldable pub time_rules : Time → Option Time → List Rule
time_rules this_update next_update =
    when (has_wrong_form this_update || has_odd_form next_update) TimeForm
    ++ when (has_fraction this_update || has_parts next_update) TimeFraction
    ++ when (not (is_some next_update)) NoNextUpdate
    ++ when (is_not_later next_update this_update) NextUpdateNotLater

unfoldable pub frame_rules : TbsCertList → List Rule
frame_rules l =
    when ((is_some l.version || is_some l.crl_extensions || list_any has_extensions l.revoked_certificates) && not (is_version_2 l.version)) ListVersion
    ++ when (is_empty_name l.issuer) ListEmptyIssuer
    ++ when (has_bad_parameters l.signature) SignatureParameters
    ++ time_rules l.this_update l.next_update

-- ---- extensions (5.2)

abbrev pub has_unreadable : List Extension → Bool
has_unreadable es =
    is_unreadable authority_key_identifier (id_ce ce_authority_key_identifier) es || is_unreadable integer (id_ce ce_crl_number) es
    || is_unreadable issuing_distribution_point (id_ce ce_issuing_distribution_point) es

unfoldable pub extension_rules : List Extension → List Rule
extension_rules es =
    when (repeats_any es) ExtensionTwice
    ++ when (has_unreadable es) UnreadableExtension
    ++ when (list_any is_loose es) ExtensionNotDer
    ++ when (list_any (is_critical_stranger known_list_extensions) es) UnknownCriticalExtension
    ++ when (has_uncritical (id_ce ce_issuing_distribution_point) es) UncriticalIssuingPoint

-- the identifier of the issuer's key, as the extension and as the issuer's certificate has it
abbrev pub named_key : List Extension → Option (List ℕ)
named_key es = key_identifier_in (said authority_key_identifier (ce_extension ce_authority_key_identifier es))

unfoldable pub identity_rules : List Extension → Option (List ℕ) → List Rule
identity_rules es issuer_key =
    when (not (is_some (named_key es))) ListWithoutKeyId
    ++ when (is_empty_id (named_key es)) EmptyAuthorityKeyId
    ++ when (differ (named_key es) issuer_key) AuthorityKeyIdDiffers
    ++ when (has_critical (id_ce ce_authority_key_identifier) es) CriticalAuthorityKeyId

-- 5.2.3
abbrev pub is_bad_number : Option (List ℕ) → Bool
is_bad_number None = false
is_bad_number (Some n) = is_negative n || nat_lt 20 (length n)

unfoldable pub number_rules : List Extension → List Rule
number_rules es =
    when (not (is_some (ce_extension ce_crl_number es))) NoCrlNumber
    ++ when (is_bad_number (said integer (ce_extension ce_crl_number es))) CrlNumberForm
    ++ when (has_critical (id_ce ce_crl_number) es) CriticalCrlNumber
    ++ when (has_uncritical (id_ce ce_delta_crl_indicator) es) UncriticalDeltaIndicator

-- ---- what it covers (5.2.5)

abbrev pub two_of : Bool → Bool → Bool → Bool
two_of a b c = (a && b) || (a && c) || (b && c)

abbrev pub has_two : IssuingDistributionPoint → Bool
has_two p = two_of p.only_contains_user_certs p.only_contains_ca_certs p.only_contains_attribute_certs

abbrev pub is_empty_point : IssuingDistributionPoint → Bool
is_empty_point p =
    not (is_some p.distribution_point) && not (is_some p.only_some_reasons) && not p.only_contains_user_certs && not p.only_contains_ca_certs
    && not p.indirect_crl && not p.only_contains_attribute_certs

abbrev pub is_indirect : Option IssuingDistributionPoint → Bool
is_indirect None = false
is_indirect (Some p) = p.indirect_crl

unfoldable pub point_rules : Option IssuingDistributionPoint → List Rule
point_rules None = []
point_rules (Some p) =
    when (is_empty_point p) EmptyIssuingPoint
    ++ when (has_two p) IssuingPointFlags
    ++ when (has_bad_name p.distribution_point) IssuingPointUri

abbrev pub issuing_point : List Extension → Option IssuingDistributionPoint
issuing_point es = said issuing_distribution_point (ce_extension ce_issuing_distribution_point es)

unfoldable pub coverage_rules : TbsCertList → List Extension → List Rule
coverage_rules l es =
    point_rules (issuing_point es)
    ++ entry_rules l.revoked_certificates l.this_update (is_indirect (issuing_point es)) (is_some (ce_extension ce_delta_crl_indicator es))

-- ---- of octets

unfoldable pub rules_of : TbsCertList → Option (List ℕ) → List Rule
rules_of l issuer_key =
    frame_rules l
    ++ extension_rules (extensions_in l.crl_extensions)
    ++ identity_rules (extensions_in l.crl_extensions) issuer_key
    ++ number_rules (extensions_in l.crl_extensions)
    ++ coverage_rules l (extensions_in l.crl_extensions)

abbrev pub list_found : Bool → Option TbsCertList → Option (List ℕ) → List Rule
list_found strict None issuer_key = []
list_found strict (Some l) issuer_key = rules_of l issuer_key ++ when (not strict) NotStrictDer

-- of the list to be signed, beside its issuer's certificate; none where the octets can't be read
unfoldable pub list_rules : List ℕ → Option (List ℕ) → List Rule
list_rules message issuer = list_found (is_strict message) (value_of tbs_cert_list message) (issuer_key_id issuer)
