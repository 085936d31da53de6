-- Rules of keys and of the algorithms of signatures (RFC 3279; RFC 5480; RFC 8410).
use Rattle.std.specs.Prelude.{Bool, List, None, Option, Some, [], cond, false, is_some, length, nat_lt, not, true, ℕ, zero, suc, ◌%◌, ◌&&◌, ◌++◌, ◌==◌, ◌||◌, ◌∷◌}
use Rattle.std.specs.Str.{bytes_eq}
use Rattle.der_tree.specs.Form.{value_of}
use Rattle.ecdsa.specs.Ecdsa.{public_key}
use Rattle.ecdsa.specs.declared.Curve.{Curve}
use Rattle.ecdsa.specs.declared.Curve.TheVariants.{P256, P384, P521}
use Rattle.der_tree.specs.PrimitiveTypes.{object_identifier}
use Rattle.pkix_alg.specs.Algorithms.{rsa_public_key}
use Rattle.pkix_alg.specs.declared.algorithms.RsaPublicKey.{RsaPublicKey}
use Rattle.pkix_cert.specs.declared.algorithm.AlgorithmIdentifier.{AlgorithmIdentifier}
use Rattle.pkix_cert.specs.declared.algorithm.SubjectPublicKeyInfo.{SubjectPublicKeyInfo}
use Rattle.pkix_rules.specs.Extensions.{is_among}
use Rattle.pkix_rules.specs.Integers.{is_odd_above_one}
use Rattle.pkix_rules.specs.Identifiers.{bare_signatures, ec_keys, ed25519_keys, ed448_keys, rsa_keys, rsa_signatures}
use Rattle.pkix_rules.specs.declared.key.KeyKind.{KeyKind}
use Rattle.pkix_rules.specs.declared.key.KeyKind.TheVariants.{Ec, Ed25519, Ed448, Other, Rsa}
use Rattle.rule_table.specs.Found.{when}
use Rattle.rule_table.specs.declared.rule.Rule.{Rule}
use Rattle.rule_table.specs.declared.rule.Rule.TheVariants.{EcParameters, EdParameters, PointOffCurve, RsaExponent, RsaExponentSize, RsaParameters, ShortRsaKey, UnreadableKey}

abbrev pub is_rsa : KeyKind → Bool
is_rsa Rsa = true
is_rsa Ec = false
is_rsa Ed25519 = false
is_rsa Ed448 = false
is_rsa Other = false

abbrev pub is_ec : KeyKind → Bool
is_ec Rsa = false
is_ec Ec = true
is_ec Ed25519 = false
is_ec Ed448 = false
is_ec Other = false

abbrev pub is_ed : KeyKind → Bool
is_ed Rsa = false
is_ed Ec = false
is_ed Ed25519 = true
is_ed Ed448 = true
is_ed Other = false

abbrev pub kind_of : List ℕ → KeyKind
kind_of id =
    cond (is_among id rsa_keys) Rsa
    (cond (is_among id ec_keys) Ec (cond (is_among id ed25519_keys) Ed25519 (cond (is_among id ed448_keys) Ed448 Other)))

-- NULL, whose encoding is 05 00
abbrev pub is_null : Option (List ℕ) → Bool
is_null None = false
is_null (Some value) = bytes_eq value (5 ∷ 0 ∷ [])

-- a named curve (RFC 5480, 2.1.1)
abbrev pub is_identifier : Option (List ℕ) → Bool
is_identifier None = false
is_identifier (Some value) = is_some (value_of object_identifier value)

unfoldable pub parameter_rules : KeyKind → Option (List ℕ) → List Rule
parameter_rules kind parameters =
    when (is_rsa kind && not (is_null parameters)) RsaParameters
    ++ when (is_ec kind && not (is_identifier parameters)) EcParameters
    ++ when (is_ed kind && is_some parameters) EdParameters

-- fewer than 2048 bits: fewer than 256 octets after the one that is 0
abbrev pub is_short : RsaPublicKey → Bool
is_short k = nat_lt (length k.modulus) 257

-- 3.1 of RFC 8017, where both are odd and greater than 1
abbrev pub is_exponent_bad : RsaPublicKey → Bool
is_exponent_bad k = not (is_odd_above_one k.public_exponent) || not (is_odd_above_one k.modulus)

-- how many octets a positive number has, of its contents octets (X.690, 8.3.2 and 8.3.3)
abbrev pub size_of_number : List ℕ → ℕ
size_of_number [] = 0
size_of_number (zero ∷ rest) = length rest
size_of_number (suc b ∷ rest) = length (suc b ∷ rest)

-- at least 2^16, which isn't odd, and less than 2^256: 3 to 32 octets (FIPS 186-5, A.1.1)
abbrev pub is_exponent_sized : RsaPublicKey → Bool
is_exponent_sized k = nat_lt 2 (size_of_number k.public_exponent) && nat_lt (size_of_number k.public_exponent) 33

unfoldable pub rsa_rules : Option RsaPublicKey → List Rule
rsa_rules None = when true UnreadableKey
rsa_rules (Some k) =
    when (is_short k) ShortRsaKey
    ++ when (is_exponent_bad k) RsaExponent
    ++ when (not (is_exponent_sized k)) RsaExponentSize

-- a point: 04 and two coordinates, or 02 or 03 and one (RFC 5480, 2.2; SEC 1, 2.3.3)
abbrev pub is_point_form : List ℕ → Bool
is_point_form [] = false
is_point_form (first ∷ rest) =
    nat_lt 0 (length rest) && ((first == 2) || (first == 3) || ((first == 4) && (length rest % 2 == 0)))

-- 32 octets of Ed25519, 57 of Ed448 (RFC 8032, 5.1.5 and 5.2.5; RFC 8410, 4)
unfoldable pub octet_rules : KeyKind → List ℕ → List Rule
octet_rules Rsa octets = rsa_rules (value_of rsa_public_key octets)
octet_rules Ec octets = when (not (is_point_form octets)) UnreadableKey
octet_rules Ed25519 octets = when (not (length octets == 32)) UnreadableKey
octet_rules Ed448 octets = when (not (length octets == 57)) UnreadableKey
octet_rules Other octets = []

-- the curve whose identifier's DER this is (RFC 5480, 2.1.1.1), of those on which points are looked at
abbrev pub curve_named : List ℕ → Option Curve
curve_named id =
    cond (bytes_eq id (6 ∷ 8 ∷ 42 ∷ 134 ∷ 72 ∷ 206 ∷ 61 ∷ 3 ∷ 1 ∷ 7 ∷ [])) (Some P256)
    (cond (bytes_eq id (6 ∷ 5 ∷ 43 ∷ 129 ∷ 4 ∷ 0 ∷ 34 ∷ [])) (Some P384)
    (cond (bytes_eq id (6 ∷ 5 ∷ 43 ∷ 129 ∷ 4 ∷ 0 ∷ 35 ∷ [])) (Some P521) None))

-- octets in the form of a point that aren't a public key of the curve in the uncompressed form (SEC 1, 2.3.4 and 3.2.2.1)
abbrev pub is_off : Option Curve → List ℕ → Bool
is_off None octets = false
is_off (Some curve) octets = is_point_form octets && not (is_some (public_key curve octets))

abbrev pub is_off_curve : Option (List ℕ) → List ℕ → Bool
is_off_curve None octets = false
is_off_curve (Some parameters) octets = is_off (curve_named parameters) octets

abbrev pub point_rules : KeyKind → Option (List ℕ) → List ℕ → List Rule
point_rules kind parameters octets = when (is_ec kind && is_off_curve parameters octets) PointOffCurve

unfoldable pub key_rules : SubjectPublicKeyInfo → List Rule
key_rules k =
    parameter_rules (kind_of k.algorithm.algorithm) k.algorithm.parameters
    ++ octet_rules (kind_of k.algorithm.algorithm) k.subject_public_key.bytes
    ++ point_rules (kind_of k.algorithm.algorithm) k.algorithm.parameters k.subject_public_key.bytes

-- ---- of a signature: RSA with NULL, ECDSA and EdDSA without parameters

abbrev pub has_bad_parameters : AlgorithmIdentifier → Bool
has_bad_parameters a =
    (is_among a.algorithm rsa_signatures && not (is_null a.parameters)) || (is_among a.algorithm bare_signatures && is_some a.parameters)
