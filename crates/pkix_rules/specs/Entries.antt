-- Rules of the entries of a list (RFC 5280, 5.3).
use Rattle.std.specs.Prelude.{Bool, List, None, Option, Some, false, int_lt, is_some, map, not, true, ℕ, ◌&&◌, ◌++◌}
use Rattle.std.specs.List.{list_any}
use Rattle.jiff.specs.Words.{civil_nanos}
use Rattle.asn1_core.specs.declared.time.generalized_time.GeneralizedTime.{GeneralizedTime}
use Rattle.der_tree.specs.PrimitiveTypes.{generalized_time}
use Rattle.extension_lookup.specs.Lookup.{are_distinct}
use Rattle.pkix_cert.specs.ExtensionIds.{ce_crl_reason, ce_invalidity_date}
use Rattle.pkix_cert.specs.Held.{extensions_in}
use Rattle.pkix_cert.specs.Revocations.{crl_reason}
use Rattle.pkix_cert.specs.Times.{moment_of}
use Rattle.pkix_cert.specs.declared.revocation.CrlReason.{CrlReason}
use Rattle.pkix_cert.specs.declared.revocation.CrlReason.TheVariants.{RemoveFromCRL, Unspecified as NoReason}
use Rattle.pkix_cert.specs.declared.revocation.RevokedCertificate.{RevokedCertificate}
use Rattle.pkix_cert.specs.declared.time.Time.{Time}
use Rattle.pkix_rules.specs.Extensions.{is_critical_stranger, said}
use Rattle.pkix_rules.specs.Frames.{is_earlier}
use Rattle.pkix_rules.specs.Said.{ce_extension}
use Rattle.pkix_rules.specs.declared.entry.EntryFault.{EntryFault}
use Rattle.pkix_rules.specs.declared.entry.EntryFault.TheVariants.{InvalidAfter, Removal, Unspecified}
use Rattle.pkix_rules.specs.Identifiers.{known_entry_extensions}
use Rattle.rule_table.specs.Found.{when}
use Rattle.rule_table.specs.declared.rule.Rule.{Rule}
use Rattle.rule_table.specs.declared.rule.Rule.TheVariants.{EntryTwice, InvalidAfterRevoked, ReasonUnspecified, RemoveFromComplete, RevokedAfterUpdate, UnknownCriticalEntry}

abbrev pub serials_of : List RevokedCertificate → List (List ℕ)
serials_of entries = map (λ e. e.user_certificate) entries

-- after the list was issued
abbrev pub is_revoked_after : Time → RevokedCertificate → Bool
is_revoked_after this_update e = is_earlier this_update e.revocation_date

abbrev pub has_stranger : RevokedCertificate → Bool
has_stranger e = list_any (is_critical_stranger known_entry_extensions) (extensions_in e.crl_entry_extensions)

abbrev pub has_extensions : RevokedCertificate → Bool
has_extensions e = is_some e.crl_entry_extensions

abbrev pub is_unspecified : Option CrlReason → Bool
is_unspecified (Some NoReason) = true
is_unspecified _ = false

abbrev pub is_removal : Option CrlReason → Bool
is_removal (Some RemoveFromCRL) = true
is_removal _ = false

abbrev pub is_invalid_after : Option GeneralizedTime → Time → Bool
is_invalid_after None revoked = false
is_invalid_after (Some date) revoked = int_lt (civil_nanos (moment_of revoked)) (civil_nanos date.at)

abbrev pub entry_fails : EntryFault → RevokedCertificate → Bool
entry_fails Unspecified e = is_unspecified (said crl_reason (ce_extension ce_crl_reason (extensions_in e.crl_entry_extensions)))
entry_fails Removal e = is_removal (said crl_reason (ce_extension ce_crl_reason (extensions_in e.crl_entry_extensions)))
entry_fails InvalidAfter e = is_invalid_after (said generalized_time (ce_extension ce_invalidity_date (extensions_in e.crl_entry_extensions))) e.revocation_date

-- an entry is the only one of its serial number where the list has entries of its own issuer alone; removeFromCRL is for lists that add to another
unfoldable pub entry_rules : List RevokedCertificate → Time → Bool → Bool → List Rule
entry_rules entries this_update is_indirect is_delta =
    when (not is_indirect && not (are_distinct (serials_of entries))) EntryTwice
    ++ when (list_any (is_revoked_after this_update) entries) RevokedAfterUpdate
    ++ when (list_any (entry_fails Unspecified) entries) ReasonUnspecified
    ++ when (not is_delta && list_any (entry_fails Removal) entries) RemoveFromComplete
    ++ when (list_any (entry_fails InvalidAfter) entries) InvalidAfterRevoked
    ++ when (list_any has_stranger entries) UnknownCriticalEntry
