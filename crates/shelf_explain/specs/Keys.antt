-- Algorithms and public keys.
use Rattle.std.specs.Prelude.{ℕ, Bool, true, false, cond, List, [], ◌∷◌, ◌++◌, ◌&&◌, codes, decimal, nat_eq, Option, Some, None}
use Rattle.std.specs.Cmp.Lexicographic.{pointwise}
use Rattle.der_tree.specs.Form.{value_of}
use Rattle.der_tree.specs.PrimitiveTypes.{object_identifier}
use Rattle.pkix_cert.specs.declared.algorithm.AlgorithmIdentifier.{AlgorithmIdentifier}
use Rattle.pkix_cert.specs.declared.algorithm.SubjectPublicKeyInfo.{SubjectPublicKeyInfo}
use Rattle.shelf_explain.specs.BitNames.{bits_text}
use Rattle.shelf_explain.specs.Known.{identifier_text}
use Rattle.shelf_explain.specs.Lines.{labelled, line}
use Rattle.shelf_explain.specs.Names.{hex_value}
use Rattle.shelf_explain.specs.RsaKeys.{exponent_text, rsa_length}

unfoldable pub parameter_text : Option (List ℕ) → List ℕ → List ℕ
parameter_text (Some arcs) octets = identifier_text arcs
parameter_text None octets = hex_value octets

-- a name where they are an identifier, as of a curve (RFC 5480, 2.1.1)
unfoldable pub parameters_text : List ℕ → List ℕ
parameters_text octets = codes " " ++ parameter_text (value_of object_identifier octets) octets

-- nothing for NULL
unfoldable pub unless_null : List ℕ → List ℕ
unless_null octets = cond (pointwise nat_eq octets (5 ∷ 0 ∷ [])) [] (parameters_text octets)

unfoldable pub parameters_or_none : Option (List ℕ) → List ℕ
parameters_or_none None = []
parameters_or_none (Some octets) = unless_null octets

unfoldable pub algorithm_text : AlgorithmIdentifier → List ℕ
algorithm_text a = identifier_text a.algorithm ++ parameters_or_none a.parameters

-- the identifier, and the octets of the parameters where there are such, NULL too
unfoldable pub full_parameters : Option (List ℕ) → List ℕ
full_parameters None = []
full_parameters (Some octets) = labelled (codes " ") (hex_value octets)

unfoldable pub full_algorithm_text : AlgorithmIdentifier → List ℕ
full_algorithm_text a = identifier_text a.algorithm ++ full_parameters a.parameters

unfoldable pub same_parameters : Option (List ℕ) → Option (List ℕ) → Bool
same_parameters None None = true
same_parameters (Some a) (Some b) = pointwise nat_eq a b
same_parameters _ _ = false

unfoldable pub same_algorithm : AlgorithmIdentifier → AlgorithmIdentifier → Bool
same_algorithm a b = pointwise nat_eq a.algorithm b.algorithm && same_parameters a.parameters b.parameters

unfoldable pub size_text : Option ℕ → List ℕ
size_text None = []
size_text (Some bits) = labelled (codes ", ") (decimal bits) ++ codes " bits"

-- the algorithm, and of an RSA key how many bits its modulus has, and its exponent
unfoldable pub key_text : SubjectPublicKeyInfo → List ℕ
key_text key = algorithm_text key.algorithm ++ size_text (rsa_length key) ++ exponent_text key

-- what the key is, and its octets
unfoldable pub key_lines : SubjectPublicKeyInfo → List ℕ
key_lines key =
    line (codes "  ") (codes "key") (key_text key)
    ++ line (codes "  ") (codes "key octets") (bits_text key.subject_public_key)
