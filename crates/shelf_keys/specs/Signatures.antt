-- Signatures that were handed in, before they are put in their place.
use Rattle.std.specs.Prelude.{ℕ, zero, suc, Bool, true, false, ◌&&◌, ◌||◌, ◌==◌, not, if◌then◌else◌, is_some, length, List, [], ◌∷◌, Option, Some, None, Result, Ok, Err}
use Rattle.der_tree.specs.Form.{value_of}
use Rattle.pkix_alg.specs.Algorithms.{ecdsa_sig_value, rsa_public_key}
use Rattle.pkix_alg.specs.declared.algorithms.RsaPublicKey.{RsaPublicKey}
use Rattle.pkix_cert.specs.Algorithms.{algorithm_identifier}
use Rattle.rcgen_certificate.specs.KeyValues.{signature_identifier}
use Rattle.rcgen_sign.specs.Keys.{Key, key_info_octets}
use Rattle.rcgen_sign.specs.declared.sign_algo.SignatureAlgorithm.{SignatureAlgorithm}
use Rattle.rcgen_sign.specs.declared.sign_algo.TheConstants as algorithm
use Rattle.rcgen_sign.specs.contracts.sign_algo.SignatureAlgorithmPartialEq.TheImpl.{ghosts as equality}
use Rattle.shelf_fault.specs.Faults.{and_then}
use Rattle.shelf_fault.specs.declared.fault.Fault.{Fault}
use Rattle.shelf_fault.specs.declared.fault.Fault.TheVariants.{Obstacle, Signature}
use Rattle.shelf_fault.specs.declared.fault.Obstacle.TheVariants as obstacle
use Rattle.shelf_fault.specs.declared.fault.SignatureFault.TheVariants.{OtherForm, Wrong}
use Rattle.signature_verifier.specs.Accepted.{accepts}
use Rattle.signature_verifier.specs.declared.verifier.SignatureVerifier.{SignatureVerifier}
use Rattle.shelf_keys.specs.Refusing.{refuse}
use Rattle.shelf_keys.specs.Encoded.{encoded}

-- who takes no signature with SHA-1
abbrev pub verifier : SignatureVerifier
verifier = record { takes_sha1 = false }

-- ---- the form

abbrev pub is_same : SignatureAlgorithm → SignatureAlgorithm → Bool
is_same = equality.eq

-- how long a signature is, of algorithms where that is fixed (RFC 8032, 5.1.6; FIPS 204, 4)
unfoldable pub fixed_size : SignatureAlgorithm → Option ℕ
fixed_size a =
    if is_same a algorithm.PKCS_ED25519 then Some 64
    else if is_same a algorithm.PKCS_ML_DSA_44 then Some 2420
    else if is_same a algorithm.PKCS_ML_DSA_65 then Some 3309
    else if is_same a algorithm.PKCS_ML_DSA_87 then Some 4627
    else None

-- RSASSA-PKCS1-v1_5
abbrev pub is_pkcs1 : SignatureAlgorithm → Bool
is_pkcs1 a = is_same a algorithm.PKCS_RSA_SHA256 || is_same a algorithm.PKCS_RSA_SHA384 || is_same a algorithm.PKCS_RSA_SHA512

-- RSASSA-PSS, by a key of rsaEncryption, of id-RSASSA-PSS without parameters, and with them
abbrev pub is_rsa_pss : SignatureAlgorithm → Bool
is_rsa_pss a = is_same a algorithm.PKCS_RSA_PSS_SHA256 || is_same a algorithm.PKCS_RSA_PSS_SHA384 || is_same a algorithm.PKCS_RSA_PSS_SHA512

abbrev pub is_pss : SignatureAlgorithm → Bool
is_pss a = is_same a algorithm.PKCS_PSS_SHA256 || is_same a algorithm.PKCS_PSS_SHA384 || is_same a algorithm.PKCS_PSS_SHA512

abbrev pub is_pss_only : SignatureAlgorithm → Bool
is_pss_only a = is_same a algorithm.PKCS_PSS_ONLY_SHA256 || is_same a algorithm.PKCS_PSS_ONLY_SHA384 || is_same a algorithm.PKCS_PSS_ONLY_SHA512

abbrev pub is_rsa : SignatureAlgorithm → Bool
is_rsa a = is_pkcs1 a || is_rsa_pss a || is_pss a || is_pss_only a

-- how many octets a positive number has, of the contents of its INTEGER
abbrev pub size_of_number : List ℕ → ℕ
size_of_number [] = 0
size_of_number (zero ∷ rest) = length rest
size_of_number (suc b ∷ rest) = length (suc b ∷ rest)

-- as many octets as the modulus of the key (RFC 8017, 8.1.1 and 8.2.1)
abbrev pub has_size_of : List ℕ → Option RsaPublicKey → Bool
has_size_of signature None = false
has_size_of signature (Some key) = length signature == size_of_number key.modulus

-- otherwise the DER of r and s (RFC 3279, 2.2.3)
abbrev pub has_shape_by : Option ℕ → Bool → List ℕ → List ℕ → Bool
has_shape_by (Some size) of_rsa key signature = length signature == size
has_shape_by None true key signature = has_size_of signature (value_of rsa_public_key key)
has_shape_by None false key signature = is_some (value_of ecdsa_sig_value signature)

-- the octets have the form of a signature by the key
unfoldable pub has_shape : Key → List ℕ → Bool
has_shape key signature = has_shape_by (fixed_size key.algorithm) (is_rsa key.algorithm) key.octets signature

-- ---- the signature

-- signatures of the algorithm are verified
abbrev pub is_verified : SignatureAlgorithm → Bool
is_verified a =
    not (is_same a algorithm.PKCS_ML_DSA_44) && not (is_same a algorithm.PKCS_ML_DSA_65) && not (is_same a algorithm.PKCS_ML_DSA_87)

-- the key has signed the message so
unfoldable pub verified : Key → List ℕ → List ℕ → Result (Unit {0}) Fault
verified key message signature =
    and_then (encoded algorithm_identifier (Obstacle obstacle.Algorithm) (signature_identifier key.algorithm)) (λ algorithm.
    refuse (not (accepts verifier message (key_info_octets key) algorithm signature)) (Signature Wrong))

-- the octets have the form of a signature by the key, and are its signature over the message where that is verified
unfoldable pub checked : Key → List ℕ → List ℕ → Result (Unit {0}) Fault
checked key message signature =
    and_then (refuse (not (has_shape key signature)) (Signature OtherForm)) (λ u.
    if is_verified key.algorithm then verified key message signature else Ok tt)
