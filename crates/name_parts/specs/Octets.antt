-- The octets that a text represents, with the escapes of RFC 4514, section 3.
use Rattle.std.specs.Prelude.{ℕ, ◌+◌, ◌-◌, ◌*◌, ◌==◌, nat_eq, nat_lt, Bool, true, false, if◌then◌else◌, List, [], ◌∷◌, ◌++◌, Option, Some, None}
use Rattle.std.specs.Int.{is_in_range}
use Rattle.std.specs.List.{list_any}
use Rattle.std.specs.Option.{option_map}
use Rattle.asn1_core.specs.Binds.{◌>>=◌}
use Rattle.name_parts.specs.declared.octet.Octet.{Octet}
use Rattle.name_parts.specs.declared.octet.Place.{Place}
use Rattle.name_parts.specs.declared.octet.Place.TheVariants.{Outside, AfterBackslash, AfterDigit}

-- what represents itself after a backslash: space " # + , ; < = > and the backslash (RFC 4514, 3: pair)
abbrev pub specials : List ℕ
specials = 32 ∷ 34 ∷ 35 ∷ 43 ∷ 44 ∷ 59 ∷ 60 ∷ 61 ∷ 62 ∷ 92 ∷ []

abbrev pub is_special : ℕ → Bool
is_special c = list_any (nat_eq c) specials

-- what a hexadecimal digit represents
abbrev pub hex_digit : ℕ → Option ℕ
hex_digit c =
    if is_in_range 48 57 c then Some (c - 48)
    else if is_in_range 65 70 c then Some (c - 65 + 10)
    else if is_in_range 97 102 c then Some (c - 97 + 10)
    else None

-- the digit is below 16
abbrev pub is_sound : Place → Bool
is_sound Outside = true
is_sound AfterBackslash = true
is_sound (AfterDigit high) = nat_lt high 16

-- What comes before the next octet, and the octet that c completes: a backslash begins an escape, which is one of those above or two hexadecimal
-- digits (RFC 4514, 3: hexpair); what is outside of an escape represents itself.
unfoldable pub step : Place → ℕ → Option (Place × Option Octet)
step Outside c = if c == 92 then Some (AfterBackslash, None) else Some (Outside, Some (record { value = c; is_escaped = false }))
step AfterBackslash c =
    if is_special c then Some (Outside, Some (record { value = c; is_escaped = true }))
    else (hex_digit c >>= λ high. Some (AfterDigit high, None))
step (AfterDigit high) c = hex_digit c >>= λ low. Some (Outside, Some (record { value = 16 * high + low; is_escaped = true }))

abbrev pub given : Option Octet → List Octet
given None = []
given (Some octet) = octet ∷ []

-- an escape isn't cut
abbrev pub ended : Place → Option (List Octet)
ended Outside = Some []
ended AfterBackslash = None
ended (AfterDigit high) = None

abbrev pub octets_from : Place → List ℕ → Option (List Octet)
octets_from place [] = ended place
octets_from place (c ∷ rest) = step place c >>= λ x. option_map (λ more. given x.1 ++ more) (octets_from x.0 rest)

unfoldable pub octets : List ℕ → Option (List Octet)
octets text = octets_from Outside text
