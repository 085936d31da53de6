-- What the laws speak of on names that are written and read.
use Rattle.std.specs.Prelude.{ℕ, ◌^◌, Bool, true, ◌&&◌, ◌==◌, nat_eq, nat_lt, List, length, map, flat_map}
use Rattle.std.specs.Cmp.Lexicographic.{pointwise}
use Rattle.std.specs.List.{list_all, IsDistinct}
use Rattle.std.specs.Str.{is_utf8}
use Rattle.asn1_core.specs.StringTypes.{is_printable}
use Rattle.pkix_name.specs.Names.{name_parts}
use Rattle.pkix_name.specs.declared.name.Name.{Name}
use Rattle.rcgen_text.specs.AlternativeNames.{AlternativeName, rfc822_name, dns_name, uri, ip_address, other_name}
use Rattle.rcgen_text.specs.DnTypes.{type_arcs, type_of_arcs}
use Rattle.rcgen_text.specs.DnValues.{Text, bmp_string, ia5_string, printable_string, teletex_string, universal_string, utf8_string, text_bytes}
use Rattle.rcgen_text.specs.Names.{Entry}
use Rattle.rcgen_text.specs.Strings.{is_ia5, is_teletex, is_universal, is_bmp}
use Rattle.rcgen_text.specs.declared.ip.IpAddr.{IpAddr}
use Rattle.rcgen_text.specs.declared.ip.IpAddr.TheVariants as ip

-- octets whose number is below 2 ^ 64, as that of a slice is
abbrev pub is_slice : List ℕ → Bool
is_slice octets = nat_lt (length octets) (2 ^ 64)

-- the text has characters of its type alone
abbrev pub has_its_characters : Text → Bool
has_its_characters (utf8_string octets) = is_utf8 octets
has_its_characters (printable_string octets) = list_all is_printable octets
has_its_characters (teletex_string octets) = list_all is_teletex octets
has_its_characters (ia5_string octets) = list_all is_ia5 octets
has_its_characters (universal_string octets) = is_universal octets
has_its_characters (bmp_string octets) = is_bmp octets

-- an attribute as a `DistinguishedName` holds it
abbrev pub is_held : Entry → Bool
is_held e = has_its_characters e.text && is_slice (text_bytes e.text)

-- the attribute with the type that its arcs have
abbrev pub by_arcs : Entry → Entry
by_arcs e = record { dn_type = type_of_arcs (type_arcs e.dn_type); text = e.text }

-- the identifiers of a name's attributes, part by part
abbrev pub identifiers : Name → List (List ℕ)
identifiers n = flat_map (λ part. map (λ a. a.attr_type) part.0) (name_parts n)

-- no identifier occurs twice
abbrev pub HasDistinctOids : Name → Type 0
HasDistinctOids n = IsDistinct (pointwise nat_eq) (identifiers n)

-- an address has 4 octets or 16
abbrev pub is_address : IpAddr → Bool
is_address (ip.V4 octets) = length octets == 4
is_address (ip.V6 octets) = length octets == 16

-- an alternative name as a `SanType` holds it
abbrev pub is_held_name : AlternativeName → Bool
is_held_name (rfc822_name text) = true
is_held_name (dns_name text) = true
is_held_name (uri text) = true
is_held_name (ip_address address) = is_address address
is_held_name (other_name arcs text) = is_utf8 text && is_slice text
