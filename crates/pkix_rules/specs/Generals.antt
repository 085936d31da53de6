-- What may be wrong with general names (RFC 5280, 4.2.1.6).
use Rattle.std.specs.Prelude.{Bool, List, None, Option, Some, [], false, length, not, ℕ, ◌&&◌, ◌==◌, ◌||◌, ◌∷◌}
use Rattle.std.specs.List.{list_any}
use Rattle.std.specs.Str.{bytes_eq}
use Rattle.host_name.specs.Hosts.{is_mailbox}
use Rattle.name_rules.specs.Controls.{has_control}
use Rattle.name_rules.specs.Hosts.{has_host_fault, is_mail_base}
use Rattle.name_rules.specs.Uris.{has_uri_fault}
use Rattle.name_rules.specs.declared.host.HostFault.{HostFault}
use Rattle.name_rules.specs.declared.uri.UriFault.{UriFault}
use Rattle.name_rules.specs.declared.uri.UriFault.TheVariants.{Character, NoServer, Relative}
use Rattle.pkix_name.specs.declared.general_name.GeneralName.{GeneralName}
use Rattle.pkix_name.specs.declared.general_name.GeneralName.TheVariants.{DirectoryName, DnsName, EdiPartyName, IpAddress, OtherName, RegisteredId, Rfc822Name, Uri, X400Address}
use Rattle.pkix_rules.specs.Extensions.{is_among}
use Rattle.pkix_rules.specs.Identifiers.{principal_names}

-- a name's text or octets, where it is of the form
abbrev pub host_in : GeneralName → Option (List ℕ)
host_in (DnsName t) = Some t
host_in (OtherName n) = None
host_in (Rfc822Name t) = None
host_in (X400Address a) = None
host_in (DirectoryName n) = None
host_in (EdiPartyName n) = None
host_in (Uri t) = None
host_in (IpAddress o) = None
host_in (RegisteredId i) = None

abbrev pub mailbox_in : GeneralName → Option (List ℕ)
mailbox_in (Rfc822Name t) = Some t
mailbox_in (OtherName n) = None
mailbox_in (DnsName t) = None
mailbox_in (X400Address a) = None
mailbox_in (DirectoryName n) = None
mailbox_in (EdiPartyName n) = None
mailbox_in (Uri t) = None
mailbox_in (IpAddress o) = None
mailbox_in (RegisteredId i) = None

abbrev pub uri_in : GeneralName → Option (List ℕ)
uri_in (Uri t) = Some t
uri_in (OtherName n) = None
uri_in (Rfc822Name t) = None
uri_in (DnsName t) = None
uri_in (X400Address a) = None
uri_in (DirectoryName n) = None
uri_in (EdiPartyName n) = None
uri_in (IpAddress o) = None
uri_in (RegisteredId i) = None

abbrev pub address_in : GeneralName → Option (List ℕ)
address_in (IpAddress o) = Some o
address_in (OtherName n) = None
address_in (Rfc822Name t) = None
address_in (DnsName t) = None
address_in (X400Address a) = None
address_in (DirectoryName n) = None
address_in (EdiPartyName n) = None
address_in (Uri t) = None
address_in (RegisteredId i) = None

-- it is there, and so
abbrev pub is_so : (List ℕ → Bool) → Option (List ℕ) → Bool
is_so test None = false
is_so test (Some t) = test t

abbrev pub is_bad_host : HostFault → GeneralName → Bool
is_bad_host fault n = is_so (has_host_fault fault) (host_in n)

abbrev pub has_bad_host : HostFault → List GeneralName → Bool
has_bad_host fault names = list_any (is_bad_host fault) names

abbrev pub is_bad_mailbox : GeneralName → Bool
is_bad_mailbox n = is_so (λ t. not (is_mailbox t)) (mailbox_in n)

abbrev pub has_bad_mailbox : List GeneralName → Bool
has_bad_mailbox names = list_any is_bad_mailbox names

abbrev pub is_bad_uri : UriFault → GeneralName → Bool
is_bad_uri fault n = is_so (has_uri_fault fault) (uri_in n)

abbrev pub has_bad_uri : UriFault → List GeneralName → Bool
has_bad_uri fault names = list_any (is_bad_uri fault) names

-- 4 octets of IPv4, 16 of IPv6
abbrev pub is_bad_address : GeneralName → Bool
is_bad_address n = is_so (λ o. not (length o == 4) && not (length o == 16)) (address_in n)

abbrev pub has_bad_address : List GeneralName → Bool
has_bad_address names = list_any is_bad_address names

-- the type of another name, where it is of that form
abbrev pub other_type : GeneralName → Option (List ℕ)
other_type (OtherName n) = Some n.type_id
other_type (Rfc822Name t) = None
other_type (DnsName t) = None
other_type (X400Address a) = None
other_type (DirectoryName n) = None
other_type (EdiPartyName n) = None
other_type (Uri t) = None
other_type (IpAddress o) = None
other_type (RegisteredId i) = None

-- a name by which Windows or Kerberos logs its holder on
abbrev pub is_principal : GeneralName → Bool
is_principal n = is_so (λ id. is_among id principal_names) (other_type n)

abbrev pub has_principal : List GeneralName → Bool
has_principal names = list_any is_principal names

-- the octets of its value, where it is of that form
abbrev pub other_value : GeneralName → Option (List ℕ)
other_value (OtherName n) = Some n.value
other_value (Rfc822Name t) = None
other_value (DnsName t) = None
other_value (X400Address a) = None
other_value (DirectoryName n) = None
other_value (EdiPartyName n) = None
other_value (Uri t) = None
other_value (IpAddress o) = None
other_value (RegisteredId i) = None

-- a UTF8String or IA5String without characters
abbrev pub is_empty_text : List ℕ → Bool
is_empty_text octets = bytes_eq octets (12 ∷ 0 ∷ []) || bytes_eq octets (22 ∷ 0 ∷ [])

abbrev pub is_empty_other : GeneralName → Bool
is_empty_other n = is_so is_empty_text (other_value n)

-- a control character in a text of one of these forms
abbrev pub is_controlled : GeneralName → Bool
is_controlled n = is_so has_control (host_in n) || is_so has_control (mailbox_in n) || is_so has_control (uri_in n)

-- a URI from which nothing can be fetched
abbrev pub is_bad_location : GeneralName → Bool
is_bad_location n = is_bad_uri Relative n || is_bad_uri NoServer n || is_bad_uri Character n

-- ---- the bases of subtrees (RFC 5280, 4.2.1.10)

abbrev pub is_odd_mail_base : GeneralName → Bool
is_odd_mail_base n = is_so (λ t. not (is_mail_base t)) (mailbox_in n)

-- a host begins with a label; a period in front is for subtrees of mailboxes and URIs
abbrev pub begins_with_period : List ℕ → Bool
begins_with_period [] = false
begins_with_period (c ∷ rest) = c == 46

abbrev pub is_odd_host_base : GeneralName → Bool
is_odd_host_base n = is_so begins_with_period (host_in n)

-- an address and as many octets of a mask
abbrev pub is_odd_network : GeneralName → Bool
is_odd_network n = is_so (λ o. not (length o == 8) && not (length o == 32)) (address_in n)
