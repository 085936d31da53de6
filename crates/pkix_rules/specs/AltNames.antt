-- Rules of alternative names (RFC 5280, 4.2.1.6).
use Rattle.std.specs.Prelude.{Bool, List, None, Option, Some, [], false, length, ◌++◌, ◌==◌}
use Rattle.std.specs.List.{list_any}
use Rattle.name_rules.specs.declared.host.HostFault.TheVariants.{Address, Character, EmptyLabel, Hyphen, LongLabel, LongName, TopWildcard, Underscore, Wildcard}
use Rattle.name_rules.specs.declared.uri.UriFault.TheVariants.{Character as OddCharacter, NoHost, Relative}
use Rattle.pkix_name.specs.declared.general_name.GeneralName.{GeneralName}
use Rattle.pkix_rules.specs.Generals.{has_bad_address, has_bad_host, has_bad_mailbox, has_bad_uri, has_principal, is_controlled, is_empty_other}
use Rattle.pkix_rules.specs.Repeated.{repeats_name}
use Rattle.rule_table.specs.Found.{when}
use Rattle.rule_table.specs.declared.rule.Rule.{Rule}
use Rattle.rule_table.specs.declared.rule.Rule.TheVariants.{AddressLength, AltNameTwice, ControlCharacter, DnsAddress, DnsCharacter, DnsEmptyLabel, DnsHyphen, DnsLongLabel, DnsLongName, DnsTopWildcard, DnsUnderscore, DnsWildcard}
use Rattle.rule_table.specs.declared.rule.Rule.TheVariants.{EmptyAltNames, EmptyOtherName, MailboxForm, PrincipalName, UriCharacter, UriRelative, UriWithoutHost}

abbrev pub names_in : Option (List GeneralName) → List GeneralName
names_in None = []
names_in (Some names) = names

-- they are there, and there is none
abbrev pub is_empty_list : Option (List GeneralName) → Bool
is_empty_list None = false
is_empty_list (Some names) = length names == 0

unfoldable pub host_form_rules : List GeneralName → List Rule
host_form_rules names =
    when (has_bad_host EmptyLabel names) DnsEmptyLabel
    ++ when (has_bad_host Character names) DnsCharacter
    ++ when (has_bad_host Underscore names) DnsUnderscore
    ++ when (has_bad_host Hyphen names) DnsHyphen

unfoldable pub host_length_rules : List GeneralName → List Rule
host_length_rules names =
    when (has_bad_host LongLabel names) DnsLongLabel
    ++ when (has_bad_host LongName names) DnsLongName
    ++ when (has_bad_host Wildcard names) DnsWildcard
    ++ when (has_bad_host TopWildcard names) DnsTopWildcard
    ++ when (has_bad_host Address names) DnsAddress

unfoldable pub other_name_rules : List GeneralName → List Rule
other_name_rules names =
    when (has_bad_mailbox names) MailboxForm
    ++ when (has_bad_uri OddCharacter names) UriCharacter
    ++ when (has_bad_uri Relative names) UriRelative
    ++ when (has_bad_uri NoHost names) UriWithoutHost
    ++ when (has_bad_address names) AddressLength
    ++ when (has_principal names) PrincipalName
    ++ when (list_any is_empty_other names) EmptyOtherName

unfoldable pub alt_name_rules : Option (List GeneralName) → List Rule
alt_name_rules names =
    when (is_empty_list names) EmptyAltNames
    ++ when (list_any is_controlled (names_in names)) ControlCharacter
    ++ host_form_rules (names_in names) ++ host_length_rules (names_in names) ++ other_name_rules (names_in names)
    ++ when (repeats_name (names_in names)) AltNameTwice
