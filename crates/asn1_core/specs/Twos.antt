-- Which bytes are a whole number in shortest two's complement.
use Rattle.std.specs.Prelude.{◌≡◌, ℕ, ◌^◌, ℤ, pos, ◌-ℤ◌, Bool, true, false, ◌&&◌, ◌||◌, not, cond, if◌then◌else◌, nat_lt, ◌==◌, List, [], ◌∷◌, length, Option, Some, None, refl}
use Rattle.std.specs.Int.Digits.{number_from_digits}
use Rattle.std.proofs.Common.{subst}
use Rattle.asn1_core.specs.Binds.{chosen}
use Rattle.asn1_core.specs.Contents.{Contents}
use Rattle.asn1_core.specs.Arcs.{are_below}

-- a byte that only repeats the sign of the one after it
abbrev pub only_repeats_sign : ℕ → ℕ → Bool
only_repeats_sign a b = ((a == 0) && nat_lt b 128) || ((a == 255) && nat_lt 127 b)

-- the first byte says more than the sign of the second (X.690, 8.3.2)
abbrev pub is_shortest : List ℕ → Bool
is_shortest [] = false
is_shortest (a ∷ []) = true
is_shortest (a ∷ b ∷ rest) = not (only_repeats_sign a b)

abbrev pub are_twos : List ℕ → Bool
are_twos bytes = is_shortest bytes && are_below 256 bytes

-- the first bit is the sign (X.690, 8.3.3)
abbrev pub is_negative : List ℕ → Bool
is_negative [] = false
is_negative (a ∷ rest) = nat_lt 127 a

-- the number of bytes with no sign, the highest first
abbrev pub number : List ℕ → ℕ
number bytes = number_from_digits 256 bytes

-- the signed number of the bytes, in two's complement (X.690, 8.3.3)
abbrev pub signed : List ℕ → ℤ
signed bytes = if is_negative bytes then pos (number bytes) -ℤ pos (256 ^ length bytes) else pos (number bytes)

abbrev pub without_zeros : List ℕ → List ℕ
without_zeros [] = []
without_zeros (a ∷ rest) = cond (a == 0) (without_zeros rest) (a ∷ rest)

-- with a leading zero byte, where there is no byte or the first bit is set
abbrev pub with_sign : List ℕ → List ℕ
with_sign [] = 0 ∷ []
with_sign (a ∷ rest) = cond (nat_lt a 128) (a ∷ rest) (0 ∷ a ∷ rest)

-- the shortest two's complement of the number of these bytes
abbrev pub unsigned : List ℕ → List ℕ
unsigned bytes = with_sign (without_zeros bytes)

abbrev pub without_signs : List ℕ → List ℕ
without_signs [] = []
without_signs (a ∷ []) = a ∷ []
without_signs (a ∷ b ∷ rest) = cond (only_repeats_sign a b) (without_signs (b ∷ rest)) (a ∷ b ∷ rest)

-- the shortest two's complement of the signed number of these bytes
abbrev pub twos : List ℕ → List ℕ
twos [] = 0 ∷ []
twos (a ∷ rest) = without_signs (a ∷ rest)

abbrev pub integer_to : List ℕ → Option (List ℕ)
integer_to b = cond (is_shortest b) (Some b) None

abbrev pub integer_of : List ℕ → Option (List ℕ)
integer_of b = cond (is_shortest b) (Some b) None

pub integer_there : (b v : List ℕ) → integer_of b ≡ Some v → integer_to v ≡ Some b
integer_there b v e = let k = chosen (is_shortest b) b v e in subst (λ (x : List ℕ). integer_to x ≡ Some b) k.1 (rw k.0 refl)

pub integer_back : (v b : List ℕ) → integer_to v ≡ Some b → integer_of b ≡ Some v
integer_back v b e = let k = chosen (is_shortest v) v b e in subst (λ (x : List ℕ). integer_of x ≡ Some v) k.1 (rw k.0 refl)

unfoldable pub integer_contents : Contents (List ℕ)
integer_contents = record { to = integer_to; of = integer_of; there = integer_there; back = integer_back }
