-- The verification of a signature by ECDSA (SEC 1, 4.1.4; FIPS 186-5, 6.4.2). Octets are lists of numbers
-- below 256, and section numbers are those of SEC 1.
use Rattle.std.specs.Prelude.{ℕ, ◌+◌, ◌-◌, ◌*◌, ◌/◌, ◌%◌, ◌^◌, Bool, true, false, ◌&&◌, if◌then◌else◌, ◌==◌, nat_lt, List, [], ◌∷◌, length, take, drop, Option, Some, None}
use Rattle.sha2.specs.Sha256.{sha256}
use Rattle.sha2.specs.Sha512.{sha384, sha512}
use Rattle.ecdsa.specs.declared.Curve.{Curve}
use Rattle.ecdsa.specs.declared.Hash.{Hash}
use Rattle.ecdsa.specs.declared.Hash.TheVariants.{Sha256, Sha384, Sha512}
use Rattle.ecdsa.specs.Group.{Point, Infinity, Affine, inverse}
use Rattle.ecdsa.specs.Curves.{field_prime, coefficient_a, coefficient_b, order, field_octets, order_bits, combination}
use Rattle.ecdsa.specs.Signature.{number_of_octets, ecdsa_sig_value}

-- x and y are those of a point of the curve (2.2.1)
abbrev pub is_on_curve : Curve → ℕ → ℕ → Bool
is_on_curve curve x y = y ^ 2 % field_prime curve == (x ^ 3 + coefficient_a curve * x + coefficient_b curve) % field_prime curve

-- P is a point of the curve
unfoldable pub is_point : Curve → Point → Bool
is_point curve Infinity = true
is_point curve (Affine x y) = nat_lt x (field_prime curve) && nat_lt y (field_prime curve) && is_on_curve curve x y

-- the public key with these coordinates, where it is valid (3.2.2.1): since the cofactor is 1, each point
-- of the curve but the one at infinity is
abbrev pub valid_key : Curve → ℕ → ℕ → Option Point
valid_key curve x y =
    if nat_lt x (field_prime curve) && nat_lt y (field_prime curve) && is_on_curve curve x y then Some (Affine x y) else None

-- the public key that octets write in the uncompressed form 04 ‖ X ‖ Y (2.3.4); other forms aren't read
unfoldable pub public_key : Curve → List ℕ → Option Point
public_key curve [] = None
public_key curve (form ∷ coordinates) =
    if form == 0x04 && length coordinates == 2 * field_octets curve
    then valid_key curve (number_of_octets (take (field_octets curve) coordinates)) (number_of_octets (drop (field_octets curve) coordinates))
    else None

-- H of the message (4.1.4, step 2)
abbrev pub digest_of : Hash → List ℕ → List ℕ
digest_of Sha256 message = sha256 message
digest_of Sha384 message = sha384 message
digest_of Sha512 message = sha512 message

-- e: the number of the digest's leftmost bits, as many as n has, or of all where it has fewer (step 3)
unfoldable pub leftmost_bits : Curve → List ℕ → ℕ
leftmost_bits curve digest = number_of_octets digest / 2 ^ (8 * length digest - order_bits curve)

-- a number from 1 to n - 1 (step 1)
abbrev pub is_in_range : Curve → ℕ → Bool
is_in_range curve x = nat_lt 0 x && nat_lt x (order curve)

-- R is not the point at infinity, and its x modulo n is r (steps 5 to 8)
abbrev pub has_abscissa : Curve → ℕ → Point → Bool
has_abscissa curve r Infinity = false
has_abscissa curve r (Affine x y) = x % order curve == r

-- steps 4 to 8, with w the inverse of s modulo n (FIPS 186-5, 6.4.2, step 4)
unfoldable pub accepts : Curve → ℕ → Point → ℕ → ℕ → Bool
accepts curve e Q r s =
    let w = inverse (order curve) s in
    let u1 = e * w % order curve in
    let u2 = r * w % order curve in
    has_abscissa curve r (combination curve u1 u2 Q)

-- the signature r and s is that of e under the public key Q
abbrev pub is_signature : Curve → ℕ → Option Point → Option (ℕ × ℕ) → Bool
is_signature curve e None signature = false
is_signature curve e (Some Q) None = false
is_signature curve e (Some Q) (Some (r, s)) = is_in_range curve r && is_in_range curve s && accepts curve e Q r s

-- the octets are those of a signature of the message under the public key of these octets. Where r and s
-- are accepted, r and n - s are too: ECDSA doesn't tell the two apart.
unfoldable pub verifies : Curve → Hash → List ℕ → List ℕ → List ℕ → Bool
verifies curve hash key message signature =
    is_signature curve (leftmost_bits curve (digest_of hash message)) (public_key curve key) (ecdsa_sig_value signature)
