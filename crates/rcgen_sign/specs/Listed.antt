-- The algorithms that are looked for, and which of them is found.
use Rattle.std.specs.Prelude.{ℕ, Bool, ◌&&◌, List, [], ◌∷◌, Option, nat_eq, find}
use Rattle.std.specs.Cmp.Lexicographic.{pointwise}
use Rattle.std.specs.Option.{option_eq}
use Rattle.rcgen_sign.specs.declared.key_info.KeyAlgorithm.{KeyAlgorithm}
use Rattle.rcgen_sign.specs.declared.sign_algo.SignatureAlgorithm.{SignatureAlgorithm}
use Rattle.rcgen_sign.specs.declared.sign_algo.TheConstants as algorithm
use Rattle.rcgen_sign.specs.Algorithms.{signature_arcs, key_algorithm_value}

-- in the order in which they are looked for
unfoldable pub listed : List SignatureAlgorithm
listed =
    algorithm.PKCS_RSA_SHA256 ∷ algorithm.PKCS_RSA_SHA384 ∷ algorithm.PKCS_RSA_SHA512 ∷ algorithm.PKCS_ECDSA_P256_SHA256
    ∷ algorithm.PKCS_ECDSA_P384_SHA384 ∷ algorithm.PKCS_ECDSA_P521_SHA256 ∷ algorithm.PKCS_ECDSA_P521_SHA384
    ∷ algorithm.PKCS_ECDSA_P521_SHA512 ∷ algorithm.PKCS_ED25519 ∷ []

-- the others
abbrev pub unlisted : List SignatureAlgorithm
unlisted =
    algorithm.PKCS_ML_DSA_44 ∷ algorithm.PKCS_ML_DSA_65 ∷ algorithm.PKCS_ML_DSA_87
    ∷ algorithm.PKCS_RSA_PSS_SHA256 ∷ algorithm.PKCS_RSA_PSS_SHA384 ∷ algorithm.PKCS_RSA_PSS_SHA512
    ∷ algorithm.PKCS_PSS_SHA256 ∷ algorithm.PKCS_PSS_SHA384 ∷ algorithm.PKCS_PSS_SHA512
    ∷ algorithm.PKCS_PSS_ONLY_SHA256 ∷ algorithm.PKCS_PSS_ONLY_SHA384 ∷ algorithm.PKCS_PSS_ONLY_SHA512 ∷ []

-- the first whose signatures' identifier has these arcs
abbrev pub signed_with : List ℕ → Option SignatureAlgorithm
signed_with arcs = find (λ a. pointwise nat_eq (signature_arcs a) arcs) listed

abbrev pub same_key_algorithm : KeyAlgorithm → KeyAlgorithm → Bool
same_key_algorithm x y = pointwise nat_eq x.algorithm y.algorithm && option_eq (pointwise nat_eq) x.parameters y.parameters

-- the first whose keys are named so
abbrev pub keyed_with : KeyAlgorithm → Option SignatureAlgorithm
keyed_with k = find (λ a. same_key_algorithm (key_algorithm_value a) k) listed

-- the first with both: these arcs for its signatures, and keys that are named so
abbrev pub identified_by : List ℕ → KeyAlgorithm → Option SignatureAlgorithm
identified_by arcs k = find (λ a. pointwise nat_eq (signature_arcs a) arcs && same_key_algorithm (key_algorithm_value a) k) listed
