-- The address and the subnet that a text is read as: as std reads an address and a decimal, to the end of the text.
use Rattle.std.specs.Prelude.{ℕ, nat_lt, if◌then◌else◌, List, length, Option, None}
use Rattle.std.specs.List.{position_or_len, before_first, after_first}
use Rattle.std.specs.Net.Addr.{octets_of}
use Rattle.std.specs.Net.Reader.{read_decimal, read_ipv4, read_ipv6, whole_value}
use Rattle.std.specs.Option.{option_map, option_or, option_and_then}
use Rattle.std.specs.Str.Parse.{without_leading_plus}
use Rattle.rcgen_text.specs.Addresses.{is_slash, subnet_of}
use Rattle.rcgen_text.specs.declared.ip.IpAddr.{IpAddr}
use Rattle.rcgen_text.specs.declared.ip.IpAddr.TheVariants as ip
use Rattle.rcgen_text.specs.declared.cidr.CidrSubnet.{CidrSubnet}

abbrev pub v4_of : List ℕ → Option IpAddr
v4_of text = option_map ip.V4 (whole_value (read_ipv4 text))

abbrev pub v6_of : List ℕ → Option IpAddr
v6_of text = option_map (λ segments. ip.V6 (octets_of segments)) (whole_value (read_ipv6 text))

unfoldable pub read_address : List ℕ → Option IpAddr
read_address text = option_or (v4_of text) (v6_of text)

abbrev pub read_prefix : List ℕ → Option ℕ
read_prefix text = whole_value (read_decimal 255 (without_leading_plus text))

-- the subnet of an address and of a prefix, which a second slash ends
abbrev pub read_parts : List ℕ → List ℕ → Option CidrSubnet
read_parts address prefix =
    option_and_then (λ a. option_map (subnet_of a) (read_prefix (before_first is_slash prefix))) (read_address address)

unfoldable pub read_subnet : List ℕ → Option CidrSubnet
read_subnet text =
    if nat_lt (position_or_len is_slash text) (length text)
    then read_parts (before_first is_slash text) (after_first is_slash text)
    else None
