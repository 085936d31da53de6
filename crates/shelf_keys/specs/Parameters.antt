-- The parameters in a key's algorithm (RFC 5280, 4.1.1.2 and 4.1.2.7).
use Rattle.std.specs.Prelude.{ℕ, Bool, true, false, ◌||◌, if◌then◌else◌, is_none, is_some, nat_eq, List, [], ◌∷◌, Option, Some, None}
use Rattle.std.specs.Cmp.Lexicographic.{pointwise}
use Rattle.std.specs.Str.{bytes_eq}
use Rattle.der_tree.specs.Form.{value_of}
use Rattle.der_tree.specs.PrimitiveTypes.{object_identifier}
use Rattle.pkix_cert.specs.declared.algorithm.AlgorithmIdentifier.{AlgorithmIdentifier}
use Rattle.strict_der.specs.Strict.{is_strict}

-- rsaEncryption (RFC 3279, 2.3.1)
abbrev pub is_rsa_encryption : List ℕ → Bool
is_rsa_encryption id = pointwise nat_eq id (1 ∷ 2 ∷ 840 ∷ 113549 ∷ 1 ∷ 1 ∷ 1 ∷ [])

-- id-ecPublicKey, id-ecDH and id-ecMQV (RFC 5480, 2.1.1 and 2.1.2)
abbrev pub is_of_curves : List ℕ → Bool
is_of_curves id =
    pointwise nat_eq id (1 ∷ 2 ∷ 840 ∷ 10045 ∷ 2 ∷ 1 ∷ [])
    || pointwise nat_eq id (1 ∷ 3 ∷ 132 ∷ 1 ∷ 12 ∷ [])
    || pointwise nat_eq id (1 ∷ 3 ∷ 132 ∷ 1 ∷ 13 ∷ [])

-- id-X25519, id-X448, id-Ed25519 and id-Ed448 (RFC 8410, 3)
abbrev pub is_of_edwards : List ℕ → Bool
is_of_edwards id =
    pointwise nat_eq id (1 ∷ 3 ∷ 101 ∷ 110 ∷ [])
    || pointwise nat_eq id (1 ∷ 3 ∷ 101 ∷ 111 ∷ [])
    || pointwise nat_eq id (1 ∷ 3 ∷ 101 ∷ 112 ∷ [])
    || pointwise nat_eq id (1 ∷ 3 ∷ 101 ∷ 113 ∷ [])

-- id-ml-dsa-44, id-ml-dsa-65 and id-ml-dsa-87 (RFC 9881, 2)
abbrev pub is_ml_dsa : List ℕ → Bool
is_ml_dsa id =
    pointwise nat_eq id (2 ∷ 16 ∷ 840 ∷ 1 ∷ 101 ∷ 3 ∷ 4 ∷ 3 ∷ 17 ∷ [])
    || pointwise nat_eq id (2 ∷ 16 ∷ 840 ∷ 1 ∷ 101 ∷ 3 ∷ 4 ∷ 3 ∷ 18 ∷ [])
    || pointwise nat_eq id (2 ∷ 16 ∷ 840 ∷ 1 ∷ 101 ∷ 3 ∷ 4 ∷ 3 ∷ 19 ∷ [])

-- they are NULL
abbrev pub are_null : Option (List ℕ) → Bool
are_null None = false
are_null (Some octets) = bytes_eq octets (5 ∷ 0 ∷ [])

-- they name a curve: implicitCurve and specifiedCurve must not be used (RFC 5480, 2.1.1)
abbrev pub name_curve : Option (List ℕ) → Bool
name_curve None = false
name_curve (Some octets) = is_some (value_of object_identifier octets)

-- there are none, or they are strict DER
abbrev pub are_strict : Option (List ℕ) → Bool
are_strict None = true
are_strict (Some octets) = is_strict octets

-- the parameters are those that the algorithm's own standard asks for; of others strict DER
unfoldable pub parameters_fit : AlgorithmIdentifier → Bool
parameters_fit a =
    if is_rsa_encryption a.algorithm then are_null a.parameters
    else if is_of_curves a.algorithm then name_curve a.parameters
    else if is_of_edwards a.algorithm || is_ml_dsa a.algorithm then is_none a.parameters
    else are_strict a.parameters
