-- Whether bytes that don't begin with an element may still become one: `IsFront` by cases.
use Rattle.std.specs.Prelude.{Bool, List, None, Option, Some, false, length, nat_le, nat_lt, not, true, ℕ, [], if◌then◌else◌, ◌%◌, ◌&&◌, ◌*◌, ◌+◌, ◌-◌}
use Rattle.std.specs.Prelude.{◌==◌, ◌^◌, ◌∷◌}
use Rattle.asn1_core.specs.declared.tag.Tag.{Tag}
use Rattle.der_tree.specs.Element.{identifier_at, length_at}

-- marked digits, after those so far, of a number that is still below the limit
unfoldable pub digits_go_on : ℕ → ℕ → List ℕ → Bool
digits_go_on limit high [] = nat_lt high limit
digits_go_on limit high (b ∷ bytes) =
    if nat_lt high limit then (if nat_lt b 128 then false else if nat_lt b 256 then digits_go_on limit (high * 128 + (b - 128)) bytes else false) else false

unfoldable pub number_goes_on : List ℕ → Bool
number_goes_on [] = true
number_goes_on (b ∷ bytes) = if b == 128 then false else digits_go_on (2 ^ 25) 0 (b ∷ bytes)

unfoldable pub identifier_goes_on : List ℕ → Bool
identifier_goes_on [] = true
identifier_goes_on (b ∷ bytes) = (b % 32 == 31) && number_goes_on bytes

abbrev pub is_no_zero : List ℕ → Bool
is_no_zero [] = true
is_no_zero (b ∷ bytes) = not (b == 0)

-- one to eight length octets are announced, and fewer are there
unfoldable pub length_goes_on : List ℕ → Bool
length_goes_on [] = true
length_goes_on (b ∷ bytes) = nat_le b 136 && nat_lt (length bytes) (b - 128) && is_no_zero bytes

abbrev pub content_goes_on : List ℕ → Option (ℕ × List ℕ) → Bool
content_goes_on bytes None = length_goes_on bytes
content_goes_on bytes (Some n) = nat_lt (length n.1) n.0

abbrev pub after_identifier : List ℕ → Option ((Tag × Bool) × List ℕ) → Bool
after_identifier bytes None = identifier_goes_on bytes
after_identifier bytes (Some i) = content_goes_on i.1 (length_at i.1)

unfoldable pub goes_on : List ℕ → Bool
goes_on bytes = after_identifier bytes (identifier_at bytes)
