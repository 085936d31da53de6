-- Rules of the subject and its extensions, of certificates and of what requests ask for.
use Rattle.std.specs.Prelude.{Bool, List, None, Option, Some, false, is_some, not, ◌&&◌, ◌++◌, ◌||◌}
use Rattle.pkix_cert.specs.ExtensionIds.{ce_name_constraints, ce_subject_alt_name}
use Rattle.pkix_cert.specs.declared.extension.Extension.{Extension}
use Rattle.pkix_name.specs.declared.name.Name.{Name}
use Rattle.pkix_rules.specs.Extensions.{repeats_any}
use Rattle.pkix_rules.specs.Names.{are_ia5_texts, are_printable_texts, are_short_texts, are_texts, countries_fit, has_empty_text, has_old_text, is_empty_name}
use Rattle.pkix_rules.specs.Said.{ce_extension, crl_sign, has_path_length, has_purpose, has_usage, is_authority, key_cert_sign}
use Rattle.pkix_rules.specs.declared.identifiers.TheConstants.{SERVER_AUTH}
use Rattle.pkix_rules.specs.declared.said.Said.{Said}
use Rattle.rule_table.specs.Found.{when}
use Rattle.rule_table.specs.declared.rule.Rule.{Rule}
use Rattle.rule_table.specs.declared.rule.Rule.TheVariants.{CaWithoutCertSign, CertSignWithoutCa, EmptySubject, EmptyText, ExtensionTwice, NameConstraintsWithoutCa, NoAltNames, OddCountry}
use Rattle.rule_table.specs.declared.rule.Rule.TheVariants.{OddIa5Text, OddPrintableText, OddText, OldTextKind, PathLengthWithoutCa, TextTooLong}

abbrev pub is_critical : Option Extension → Bool
is_critical None = false
is_critical (Some e) = e.critical

-- alternative names of the subject are in a critical extension (RFC 5280, 4.2.1.6)
abbrev pub has_critical_alt_names : List Extension → Bool
has_critical_alt_names es = is_critical (ce_extension ce_subject_alt_name es)

abbrev pub has_alt_names : List Extension → Bool
has_alt_names es = is_some (ce_extension ce_subject_alt_name es)

-- RFC 5280, 4.2.1.10
abbrev pub has_name_constraints : List Extension → Bool
has_name_constraints es = is_some (ce_extension ce_name_constraints es)

-- an authority and who signs lists has a name, and any subject one or critical alternative names (RFC 5280, 4.1.2.6)
abbrev pub lacks_name : Name → List Extension → Said → Bool
lacks_name subject es s =
    is_empty_name subject && (is_authority s.constraints || has_usage crl_sign s.key_usage || not (has_critical_alt_names es))

-- a server without alternative names: who connects looks for its name among them (RFC 5280, 4.2.1.6), and not in the
-- subject's common name (RFC 9525, 2); of an authority the purposes are those of certificates below
abbrev pub lacks_server_name : List Extension → Said → Bool
lacks_server_name es s = has_purpose SERVER_AUTH.now s.purposes && not (is_authority s.constraints) && not (has_alt_names es)

unfoldable pub usage_beside_ca_rules : Name → List Extension → Said → List Rule
usage_beside_ca_rules subject es s =
    when (lacks_name subject es s) EmptySubject
    ++ when (has_usage key_cert_sign s.key_usage && not (is_authority s.constraints)) CertSignWithoutCa
    ++ when (is_authority s.constraints && not (has_usage key_cert_sign s.key_usage)) CaWithoutCertSign
    ++ when (has_path_length s.constraints && not (is_authority s.constraints)) PathLengthWithoutCa
    ++ when (has_name_constraints es && not (is_authority s.constraints)) NameConstraintsWithoutCa

unfoldable pub extension_rules : List Extension → Said → List Rule
extension_rules es s =
    when (repeats_any es) ExtensionTwice
    ++ when (lacks_server_name es s) NoAltNames

unfoldable pub text_rules : Name → List Rule
text_rules subject =
    when (not (countries_fit subject)) OddCountry
    ++ when (not (are_ia5_texts subject)) OddIa5Text
    ++ when (not (are_printable_texts subject)) OddPrintableText
    ++ when (not (are_texts subject) && not (has_empty_text subject)) OddText
    ++ when (has_empty_text subject) EmptyText
    ++ when (are_texts subject && not (are_short_texts subject)) TextTooLong
    ++ when (has_old_text subject) OldTextKind

unfoldable pub subject_rules : Name → List Extension → Said → List Rule
subject_rules subject es s = usage_beside_ca_rules subject es s ++ extension_rules es s ++ text_rules subject
