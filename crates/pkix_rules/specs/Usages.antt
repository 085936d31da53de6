-- Rules of what a key may be used for (RFC 5280, 4.2.1.3 and 4.2.1.12).
use Rattle.std.specs.Prelude.{Bool, List, None, Option, Some, [], false, is_some, length, nat_lt, not, ℕ, ◌%◌, ◌&&◌, ◌++◌, ◌==◌, ◌||◌, ◌∷◌}
use Rattle.std.specs.List.{list_all}
use Rattle.asn1_core.specs.Bits.{Bits}
use Rattle.extension_lookup.specs.Lookup.{are_distinct}
use Rattle.pkix_cert.specs.ExtensionIds.{ce_ext_key_usage, id_ce}
use Rattle.pkix_cert.specs.declared.extension.Extension.{Extension}
use Rattle.pkix_rules.specs.Extensions.{extension_at, has_critical, has_uncritical}
use Rattle.pkix_rules.specs.Keys.{is_ec, is_ed, is_rsa}
use Rattle.pkix_rules.specs.Said.{data_encipherment, decipher_only, digital_signature, encipher_only, has_purpose, has_usage, is_authority, key_agreement, key_encipherment, non_repudiation}
use Rattle.pkix_rules.specs.declared.identifiers.TheConstants.{ANY_PURPOSE, CLIENT_AUTH, CODE_SIGNING, EMAIL_PROTECTION, OCSP_NO_CHECK, OCSP_SIGNING, SERVER_AUTH, TIME_STAMPING}
use Rattle.pkix_rules.specs.declared.key.KeyKind.{KeyKind}
use Rattle.pkix_rules.specs.declared.said.Said.{Said}
use Rattle.rule_table.specs.Found.{when}
use Rattle.rule_table.specs.declared.rule.Rule.{Rule}
use Rattle.rule_table.specs.declared.rule.Rule.TheVariants.{AnyPurpose, AnyPurposeCritical, EmptyKeyUsage, EmptyPurposes, EncipherAndDecipherOnly, EncipherWithoutAgreement, KeyUsageOfEc}
use Rattle.rule_table.specs.declared.rule.Rule.TheVariants.{KeyUsageOfEd, KeyUsageOfRsa, OcspWithoutNoCheck, PurposeTwice, PurposesWithoutUsage, TimeStampingNotAlone, UnknownKeyUsage}

-- ---- key usage by itself

abbrev pub is_zero_octet : ℕ → Bool
is_zero_octet octet = octet == 0

-- it is there, and no bit is 1
abbrev pub sets_none : Option Bits → Bool
sets_none None = false
sets_none (Some usage) = list_all is_zero_octet usage.bytes

-- one after bit 8: in DER the last octet of such a string has a bit that is 1 (X.690, 11.2.2)
abbrev pub has_high_bit : List ℕ → Bool
has_high_bit [] = false
has_high_bit (first ∷ []) = false
has_high_bit (first ∷ second ∷ rest) = not (second % 128 == 0) || nat_lt 2 (length (first ∷ second ∷ rest))

abbrev pub has_unknown_usage : Option Bits → Bool
has_unknown_usage None = false
has_unknown_usage (Some usage) = has_high_bit usage.bytes

unfoldable pub usage_rules : Option Bits → List Rule
usage_rules usage =
    when (sets_none usage) EmptyKeyUsage
    ++ when (has_unknown_usage usage) UnknownKeyUsage
    ++ when ((has_usage encipher_only usage || has_usage decipher_only usage) && not (has_usage key_agreement usage)) EncipherWithoutAgreement
    ++ when (has_usage encipher_only usage && has_usage decipher_only usage) EncipherAndDecipherOnly

-- ---- beside the kind of the key

abbrev pub enciphers : Option Bits → Bool
enciphers usage = has_usage key_encipherment usage || has_usage data_encipherment usage

abbrev pub agrees : Option Bits → Bool
agrees usage = has_usage key_agreement usage || has_usage encipher_only usage || has_usage decipher_only usage

unfoldable pub usage_of_key_rules : Option Bits → KeyKind → List Rule
usage_of_key_rules usage kind =
    when (is_rsa kind && agrees usage) KeyUsageOfRsa
    ++ when (is_ec kind && enciphers usage) KeyUsageOfEc
    ++ when (is_ed kind && (enciphers usage || agrees usage)) KeyUsageOfEd

-- ---- purposes

unfoldable pub purpose_list_rules : Option (List (List ℕ)) → List Rule
purpose_list_rules None = []
purpose_list_rules (Some purposes) =
    when (length purposes == 0) EmptyPurposes
    ++ when (not (are_distinct purposes)) PurposeTwice

abbrev pub is_not_alone : Option (List (List ℕ)) → Bool
is_not_alone None = false
is_not_alone (Some purposes) = not (length purposes == 1)

-- none of the bits that 4.2.1.12 says may be consistent with the purpose
abbrev pub lacks_server_usage : Said → Bool
lacks_server_usage s =
    (has_purpose SERVER_AUTH.now s.purposes
    && not (has_usage digital_signature s.key_usage || has_usage key_agreement s.key_usage || has_usage key_encipherment s.key_usage))
    || (has_purpose CLIENT_AUTH.now s.purposes && not (has_usage digital_signature s.key_usage || has_usage key_agreement s.key_usage))

abbrev pub lacks_signer_usage : Said → Bool
lacks_signer_usage s =
    (has_purpose CODE_SIGNING.now s.purposes && not (has_usage digital_signature s.key_usage))
    || (has_purpose TIME_STAMPING.now s.purposes && not (has_usage digital_signature s.key_usage || has_usage non_repudiation s.key_usage))
    || (has_purpose OCSP_SIGNING.now s.purposes && not (has_usage digital_signature s.key_usage || has_usage non_repudiation s.key_usage))

abbrev pub lacks_mail_usage : Said → Bool
lacks_mail_usage s =
    has_purpose EMAIL_PROTECTION.now s.purposes
    && not (has_usage digital_signature s.key_usage || has_usage non_repudiation s.key_usage || has_usage key_encipherment s.key_usage || has_usage key_agreement s.key_usage)

-- key usage is there and doesn't serve one of the purposes; of an authority the purposes are those of certificates below
abbrev pub serves_none : Said → Bool
serves_none s = is_some s.key_usage && not (is_authority s.constraints) && (lacks_server_usage s || lacks_signer_usage s || lacks_mail_usage s)

abbrev pub has_any_purpose : Said → Bool
has_any_purpose s = has_purpose ANY_PURPOSE.now s.purposes && not (is_authority s.constraints)

-- RFC 3161, 2.3; of an authority the purposes are those of certificates below
abbrev pub stamps_beside : List Extension → Said → Bool
stamps_beside es s =
    has_purpose TIME_STAMPING.now s.purposes && not (is_authority s.constraints)
    && (is_not_alone s.purposes || has_uncritical (id_ce ce_ext_key_usage) es)

-- id-kp-OCSPSigning without id-pkix-ocsp-nocheck (RFC 6960, 4.2.2.2.1); of an authority the purposes are those of certificates below
abbrev pub lacks_no_check : List Extension → Said → Bool
lacks_no_check es s =
    has_purpose OCSP_SIGNING.now s.purposes && not (is_authority s.constraints) && not (is_some (extension_at OCSP_NO_CHECK.now es))

unfoldable pub purpose_rules : List Extension → Said → List Rule
purpose_rules es s =
    purpose_list_rules s.purposes
    ++ when (has_purpose ANY_PURPOSE.now s.purposes && has_critical (id_ce ce_ext_key_usage) es) AnyPurposeCritical
    ++ when (has_any_purpose s) AnyPurpose
    ++ when (lacks_no_check es s) OcspWithoutNoCheck
    ++ when (stamps_beside es s) TimeStampingNotAlone
    ++ when (serves_none s) PurposesWithoutUsage
