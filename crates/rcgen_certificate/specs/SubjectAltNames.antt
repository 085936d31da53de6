-- The subject's alternative names (RFC 5280, 4.2.1.6).
use Rattle.std.specs.Prelude.{ℕ, Bool, true, List, map, Option, None, refl}
use Rattle.std.specs.Option.{option_map}
use Rattle.asn1_core.specs.Arcs.{is_oid}
use Rattle.der_tree.specs.Element.{element_octets}
use Rattle.der_tree.specs.Grammar.{sequence_of}
use Rattle.pkix_cert.specs.ExtensionIds.{ce_subject_alt_name, id_ce}
use Rattle.pkix_name.specs.GeneralNames.{general_name}
use Rattle.pkix_name.specs.declared.general_name.GeneralName.{GeneralName}
use Rattle.pkix_name.specs.declared.general_name.GeneralName.TheVariants as general
use Rattle.rcgen_text.specs.AlternativeNames.{AlternativeName, rfc822_name, dns_name, uri, ip_address, other_name}
use Rattle.rcgen_text.specs.DnValues.{utf8_string}
use Rattle.rcgen_text.specs.declared.ip.IpAddr.{IpAddr}
use Rattle.rcgen_text.specs.declared.ip.IpAddr.TheVariants as ip
use Rattle.rcgen_certificate.specs.AsciiTexts.{is_ascii}
use Rattle.rcgen_certificate.specs.ExtensionRows.{ExtensionRow, extension_row, unless_empty}
use Rattle.rcgen_certificate.specs.NameValues.{text_element}

abbrev pub address_octets : IpAddr → List ℕ
address_octets (ip.V4 octets) = octets
address_octets (ip.V6 octets) = octets

-- an other name's text is a UTF8String
abbrev pub general_name_value : AlternativeName → GeneralName
general_name_value (rfc822_name text) = general.Rfc822Name text
general_name_value (dns_name text) = general.DnsName text
general_name_value (uri text) = general.Uri text
general_name_value (ip_address address) = general.IpAddress (address_octets address)
general_name_value (other_name arcs text) = general.OtherName (record { type_id = arcs; value = element_octets (text_element (utf8_string text)) })

-- the type of an other name is an object identifier
abbrev pub has_type_id : AlternativeName → Bool
has_type_id (rfc822_name text) = true
has_type_id (dns_name text) = true
has_type_id (uri text) = true
has_type_id (ip_address address) = true
has_type_id (other_name arcs text) = is_oid arcs

-- a mailbox, domain name or URI is ASCII, as the type of its text has it
abbrev pub is_ascii_name : AlternativeName → Bool
is_ascii_name (rfc822_name text) = is_ascii text
is_ascii_name (dns_name text) = is_ascii text
is_ascii_name (uri text) = is_ascii text
is_ascii_name (ip_address address) = true
is_ascii_name (other_name arcs text) = true

-- the names, where there are some
abbrev pub subject_alt_name : List AlternativeName → Option (List GeneralName)
subject_alt_name names = option_map (map general_name_value) (unless_empty names)

-- the extension on them, critical or not
abbrev pub subject_alt_name_row : Bool → List AlternativeName → List ExtensionRow
subject_alt_name_row critical names =
    extension_row (id_ce ce_subject_alt_name) critical (sequence_of general_name 0 None refl) (subject_alt_name names)
