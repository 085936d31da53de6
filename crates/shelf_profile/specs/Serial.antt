-- Numbers of at most 20 octets: serial numbers of certificates, which are positive (RFC 5280, 4.1.2.2), and numbers of lists (5.2.3).
use Rattle.std.specs.Prelude.{ℕ, nat_lt, ◌==◌, Bool, false, ◌&&◌, ◌||◌, not, if◌then◌else◌, List, [], ◌∷◌, length, Option, Some, None}
use Rattle.std.specs.List.{list_any}
use Rattle.asn1_core.specs.Twos.{number}
use Rattle.toml_format.specs.Hex.{from_hex}

-- there are octets, and the INTEGER has at most 20: of 20 whose first is 128 or more it has one more
abbrev pub is_number : List ℕ → Bool
is_number [] = false
is_number (b ∷ bs) = nat_lt (length (b ∷ bs)) 20 || (length (b ∷ bs) == 20 && nat_lt b 128)

-- such a number, and some octet isn't zero
abbrev pub is_serial : List ℕ → Bool
is_serial octets = is_number octets && list_any (λ b. not (b == 0)) octets

-- the octets are those of a lower number, the highest first
abbrev pub is_less : List ℕ → List ℕ → Bool
is_less a b = nat_lt (number a) (number b)

abbrev pub serial_if : Option (List ℕ) → Option (List ℕ)
serial_if None = None
serial_if (Some octets) = if is_serial octets then Some octets else None

-- the octets in hex, the highest first
unfoldable pub serial : List ℕ → Option (List ℕ)
serial text = serial_if (from_hex text)
