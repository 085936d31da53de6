-- Rules of what every certificate says: version, serial number, times (RFC 5280, 4.1.2).
use Rattle.std.specs.Prelude.{Bool, List, false, int_lt, is_some, length, nat_lt, not, pos, ℕ, ◌&&◌, ◌++◌, ◌==◌, ◌||◌}
use Rattle.std.specs.Ordering.{int_eq}
use Rattle.jiff.specs.Words.{civil_nanos}
use Rattle.asn1_core.specs.UtcTime.{is_utc_time_year}
use Rattle.pkix_cert.specs.Times.{moment_of}
use Rattle.pkix_cert.specs.Versions.{raw_value}
use Rattle.pkix_cert.specs.declared.certificate.TbsCertificate.{TbsCertificate}
use Rattle.pkix_cert.specs.declared.certificate.Version.{Version}
use Rattle.pkix_cert.specs.declared.time.Time.{Time}
use Rattle.pkix_cert.specs.declared.time.Time.TheVariants.{General, Utc}
use Rattle.pkix_rules.specs.Integers.{is_positive}
use Rattle.pkix_rules.specs.Keys.{has_bad_parameters}
use Rattle.pkix_rules.specs.Names.{is_empty_name}
use Rattle.rule_table.specs.Found.{when}
use Rattle.rule_table.specs.declared.rule.Rule.{Rule}
use Rattle.rule_table.specs.declared.rule.Rule.TheVariants.{EmptyIssuer, ExtensionsWithoutV3, SerialNotPositive, SerialTooLong, SignatureParameters, TimeForm, TimeFraction}
use Rattle.rule_table.specs.declared.rule.Rule.TheVariants.{UniqueIdentifiers, UnknownVersion, ValidityReversed, YearZero}

-- 0 is version 1, and 2 is version 3 (4.1.2.1)
unfoldable pub version_rules : Version → Bool → Bool → List Rule
version_rules version has_unique_ids has_extensions =
    when (nat_lt 2 (raw_value version)) UnknownVersion
    ++ when (has_extensions && not (raw_value version == 2)) ExtensionsWithoutV3
    ++ when has_unique_ids UniqueIdentifiers

-- contents octets of an INTEGER (4.1.2.2)
unfoldable pub serial_rules : List ℕ → List Rule
serial_rules n =
    when (not (is_positive n)) SerialNotPositive
    ++ when (nat_lt 20 (length n)) SerialTooLong

abbrev pub is_earlier : Time → Time → Bool
is_earlier a b = int_lt (civil_nanos (moment_of a)) (civil_nanos (moment_of b))

-- GeneralizedTime of a year from 1950 to 2049 (4.1.2.5)
abbrev pub has_wrong_form : Time → Bool
has_wrong_form (Utc t) = false
has_wrong_form (General t) = is_utc_time_year t.at

-- 4.1.2.5.2
abbrev pub has_fraction : Time → Bool
has_fraction t = not ((moment_of t).time.subsec_nanosecond == 0)

abbrev pub is_of_year_zero : Time → Bool
is_of_year_zero t = int_eq (moment_of t).date.year (pos 0)

unfoldable pub time_rules : Time → Time → List Rule
time_rules start end =
    when (is_earlier end start) ValidityReversed
    ++ when (has_wrong_form start || has_wrong_form end) TimeForm
    ++ when (has_fraction start || has_fraction end) TimeFraction
    ++ when (is_of_year_zero start || is_of_year_zero end) YearZero

unfoldable pub frame_rules : TbsCertificate → List Rule
frame_rules c =
    when (is_empty_name c.issuer) EmptyIssuer
    ++ version_rules c.version (is_some c.issuer_unique_id || is_some c.subject_unique_id) (is_some c.extensions)
    ++ serial_rules c.serial_number
    ++ time_rules c.validity.not_before c.validity.not_after
    ++ when (has_bad_parameters c.signature) SignatureParameters
