-- How alternative names are read (RFC 5280, 4.2.1.6).
use Rattle.std.specs.Prelude.{ℕ, List, [], length, Result, Ok, Err, ok_or, ◌==◌, if◌then◌else◌, refl, None}
use Rattle.asn1_core.specs.Binds.{◌>>=◌}
use Rattle.der_tree.specs.Element.{one_element}
use Rattle.der_tree.specs.Grammar.{sequence_of}
use Rattle.der_tree.specs.Primitive.{contents_at}
use Rattle.der_tree.specs.Tags.{universal}
use Rattle.der_tree.specs.declared.instance_of.InstanceOf.{InstanceOf}
use Rattle.pkix_name.specs.GeneralNames.{general_name}
use Rattle.pkix_name.specs.declared.general_name.GeneralName.{GeneralName}
use Rattle.pkix_name.specs.declared.general_name.GeneralName.TheVariants as general
use Rattle.rcgen_text.specs.AlternativeNames.{AlternativeName, rfc822_name, dns_name, uri, ip_address, other_name}
use Rattle.rcgen_text.specs.Causes.{Cause, address_length, name_type, not_certificate, unsupported_extension}
use Rattle.rcgen_text.specs.declared.ip.IpAddr.{IpAddr}
use Rattle.rcgen_text.specs.declared.ip.IpAddr.TheVariants as ip
use Rattle.rcgen_read.specs.Reading.{and_then, unless_cause, read_each, read_exactly, not_utf8}

-- an address of 4 octets or 16
abbrev pub read_address : List ℕ → Result IpAddr Cause
read_address octets =
    if length octets == 4 then Ok (ip.V4 octets)
    else if length octets == 16 then Ok (ip.V6 octets)
    else Err (address_length (length octets))

-- the text of a value that is a UTF8String
abbrev pub read_utf8 : List ℕ → Result (List ℕ) Cause
read_utf8 value =
    and_then (ok_or (one_element value >>= contents_at (universal 12)) not_certificate) (λ octets. unless_cause (not_utf8 octets) octets)

abbrev pub read_other_name : InstanceOf (List ℕ) → Result AlternativeName Cause
read_other_name name = and_then (read_utf8 name.value) (λ text. Ok (other_name name.type_id text))

-- of the nine kinds five are read
abbrev pub read_general_name : GeneralName → Result AlternativeName Cause
read_general_name (general.Rfc822Name text) = Ok (rfc822_name text)
read_general_name (general.DnsName text) = Ok (dns_name text)
read_general_name (general.Uri text) = Ok (uri text)
read_general_name (general.IpAddress octets) = and_then (read_address octets) (λ address. Ok (ip_address address))
read_general_name (general.OtherName name) = read_other_name name
read_general_name (general.X400Address address) = Err name_type
read_general_name (general.DirectoryName name) = Err name_type
read_general_name (general.EdiPartyName name) = Err name_type
read_general_name (general.RegisteredId id) = Err name_type

-- the names that are exactly these contents, in order
abbrev pub read_names : List ℕ → Result (List AlternativeName) Cause
read_names contents = and_then (read_exactly (sequence_of general_name 0 None refl) unsupported_extension contents) (read_each read_general_name [])
