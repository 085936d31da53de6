-- IP addresses, and subnets with their masks, and their texts.
use Rattle.std.specs.Prelude.{◌≡◌, ℕ, zero, suc, ◌-◌, ◌^◌, ◌<◌, Bool, ◌==◌, List, [], ◌∷◌, ◌++◌, length, get_or, Option, MatchOption}
use Rattle.std.specs.List.{position_or_len, before_first, after_first}
use Rattle.std.specs.Str.Parse.{IsNumeral, digits_value, without_leading_plus}
use Rattle.std.specs.Net.Addr.{segments_of}
use Rattle.std.specs.Net.Grammar.{IsDotted, IsColonHex}
use Rattle.rcgen_text.specs.declared.ip.IpAddr.{IpAddr}
use Rattle.rcgen_text.specs.declared.ip.IpAddr.TheVariants as ip
use Rattle.rcgen_text.specs.declared.cidr.CidrSubnet.{CidrSubnet}
use Rattle.rcgen_text.specs.declared.cidr.CidrSubnet.TheVariants as cidr

-- what the text says, where it says something
abbrev pub ReadsText : {A : Type 0} → (List ℕ → A → Type 0) → List ℕ → Option A → Type 0
ReadsText {A} Says text found = MatchOption found ((a : A) → ¬ (Says text a)) (Says text)

-- so many octets
abbrev pub AreOctets : ℕ → List ℕ → Type 0
AreOctets n octets = (length octets ≡ n) × ((k : ℕ) → get_or octets k 0 < 256)

-- IPv4: four decimals from 0 to 255 without leading zeros, joined by periods. IPv6: eight groups of one to
-- four hex digits, joined by colons; at most one `::` represents one or more groups of zero; the last two
-- groups may be written as an IPv4 address (RFC 4291, 2.2). No zone follows. The address has 4 octets, or 16.
abbrev pub IsAddressText : List ℕ → IpAddr → Type 0
IsAddressText text (ip.V4 octets) = AreOctets 4 octets × IsDotted text octets
IsAddressText text (ip.V6 octets) = AreOctets 16 octets × IsColonHex text (segments_of octets)

-- an octet of which the first so many bits are set, at most all
abbrev pub octet_mask : ℕ → ℕ
octet_mask bits = 256 - 2 ^ (8 - bits)

-- so many octets of which the first bits are set, at most all
abbrev pub mask : ℕ → ℕ → List ℕ
mask zero bits = []
mask (suc octets) bits = octet_mask bits ∷ mask octets (bits - 8)

-- the subnet of the address with a prefix of so many bits
abbrev pub subnet_of : IpAddr → ℕ → CidrSubnet
subnet_of (ip.V4 octets) prefix = cidr.V4 octets (mask 4 prefix)
subnet_of (ip.V6 octets) prefix = cidr.V6 octets (mask 16 prefix)

-- the address, then the mask
abbrev pub subnet_octets : CidrSubnet → List ℕ
subnet_octets (cidr.V4 address mask) = address ++ mask
subnet_octets (cidr.V6 address mask) = address ++ mask

abbrev pub is_slash : ℕ → Bool
is_slash b = b == 47

-- decimal digits, before which a plus may be written, of a number from 0 to 255
abbrev pub IsPrefixText : List ℕ → ℕ → Type 0
IsPrefixText text prefix =
    IsNumeral 10 (without_leading_plus text) × (digits_value 10 (without_leading_plus text) ≡ prefix) × (prefix < 256)

-- an address, a slash and a prefix; a second slash and what comes after it are ignored
pub record IsSubnetText (text : List ℕ) (subnet : CidrSubnet) : Type 0 where
  pub address : IpAddr
  pub prefix : ℕ
  pub has_slash : position_or_len is_slash text < length text
  pub address_text : IsAddressText (before_first is_slash text) address
  pub prefix_text : IsPrefixText (before_first is_slash (after_first is_slash text)) prefix
  pub value : subnet ≡ subnet_of address prefix
