-- Numbers as certificates hold them: contents octets of an INTEGER (X.690, 8.3).
use Rattle.std.specs.Prelude.{Bool, List, [], false, not, ℕ, ◌%◌, ◌&&◌, ◌==◌, ◌∷◌}
use Rattle.asn1_core.specs.Twos.{is_negative}
use Rattle.pkix_cert.specs.Distances.{same_integer, zero}

abbrev pub is_zero : List ℕ → Bool
is_zero n = same_integer n zero

abbrev pub is_one : List ℕ → Bool
is_one n = same_integer n (1 ∷ [])

abbrev pub is_positive : List ℕ → Bool
is_positive n = not (is_negative n) && not (is_zero n)

abbrev pub is_even : ℕ → Bool
is_even octet = octet % 2 == 0

-- the last octet is odd, of some before which the last was as the first argument says
abbrev pub ends_odd : Bool → List ℕ → Bool
ends_odd odd [] = odd
ends_odd odd (octet ∷ octets) = ends_odd (not (is_even octet)) octets

abbrev pub is_odd : List ℕ → Bool
is_odd n = ends_odd false n

abbrev pub is_odd_above_one : List ℕ → Bool
is_odd_above_one n = is_positive n && not (is_one n) && is_odd n
