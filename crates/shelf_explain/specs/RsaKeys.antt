-- How many bits an RSA key has, and its exponent (RFC 3279, 2.3.1; RFC 4055, 1.2).
use Rattle.std.specs.Prelude.{ℕ, Bool, not, ◌&&◌, ◌||◌, ◌==◌, cond, codes, List, [], ◌∷◌, length, nat_eq, nat_lt, Option, Some, None}
use Rattle.std.specs.Cmp.Lexicographic.{pointwise}
use Rattle.std.specs.Int.Digits.{digits_of}
use Rattle.asn1_core.specs.Twos.{is_negative, number}
use Rattle.der_tree.specs.Form.{value_of}
use Rattle.pkix_alg.specs.Algorithms.{rsa_public_key}
use Rattle.pkix_alg.specs.declared.algorithms.RsaPublicKey.{RsaPublicKey}
use Rattle.pkix_cert.specs.declared.algorithm.SubjectPublicKeyInfo.{SubjectPublicKeyInfo}
use Rattle.shelf_explain.specs.Known.{rsa_encryption}
use Rattle.shelf_explain.specs.Lines.{labelled}
use Rattle.shelf_explain.specs.Numbers.{integer_text}

-- how many binary digits, the first of which is 1
unfoldable pub bit_length : ℕ → ℕ
bit_length n = length (digits_of 2 n)

-- above 0 (X.690, 8.3.3)
abbrev pub is_positive : List ℕ → Bool
is_positive twos = not (is_negative twos) && nat_lt 0 (number twos)

-- of a positive number in two's complement
unfoldable pub positive_length : List ℕ → Option ℕ
positive_length twos = cond (is_positive twos) (Some (bit_length (number twos))) None

abbrev pub length_of : Option RsaPublicKey → Option ℕ
length_of None = None
length_of (Some key) = positive_length key.modulus

-- of the modulus of the RSAPublicKey whose octets these are (RFC 8017, A.1.1)
unfoldable pub modulus_length : List ℕ → Option ℕ
modulus_length octets = length_of (value_of rsa_public_key octets)

-- id-RSASSA-PSS (RFC 4055, 1.2)
abbrev pub rsassa_pss : List ℕ
rsassa_pss = 1 ∷ 2 ∷ 840 ∷ 113549 ∷ 1 ∷ 1 ∷ 10 ∷ []

unfoldable pub is_rsa_identifier : List ℕ → Bool
is_rsa_identifier arcs = pointwise nat_eq arcs rsa_encryption || pointwise nat_eq arcs rsassa_pss

-- an RSA key, in a BIT STRING without unused bits
unfoldable pub is_rsa : SubjectPublicKeyInfo → Bool
is_rsa key = is_rsa_identifier key.algorithm.algorithm && (key.subject_public_key.unused == 0)

unfoldable pub rsa_length : SubjectPublicKeyInfo → Option ℕ
rsa_length key = cond (is_rsa key) (modulus_length key.subject_public_key.bytes) None

unfoldable pub exponent_of : Option RsaPublicKey → List ℕ
exponent_of None = []
exponent_of (Some key) = labelled (codes ", exponent ") (integer_text key.public_exponent)

unfoldable pub exponent_in : List ℕ → List ℕ
exponent_in octets = exponent_of (value_of rsa_public_key octets)

-- the exponent of an RSA key
unfoldable pub exponent_text : SubjectPublicKeyInfo → List ℕ
exponent_text key = cond (is_rsa key) (exponent_in key.subject_public_key.bytes) []
