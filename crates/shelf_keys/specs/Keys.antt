-- Public keys of orders, and the algorithms of their signatures.
use Rattle.std.specs.Prelude.{ℕ, Bool, true, false, ◌&&◌, ◌==◌, not, List, [], ◌∷◌, Option, Some, None, Result, Ok, find, nat_eq, option_map}
use Rattle.std.specs.Cmp.Lexicographic.{pointwise}
use Rattle.der_tree.specs.Form.{value_of}
use Rattle.pkix_cert.specs.Algorithms.{algorithm_identifier, subject_public_key_info}
use Rattle.pkix_cert.specs.declared.algorithm.SubjectPublicKeyInfo.{SubjectPublicKeyInfo}
use Rattle.rcgen_sign.specs.Algorithms.{key_element}
use Rattle.rcgen_sign.specs.Keys.{Key, key_of_parts}
use Rattle.rcgen_sign.specs.declared.sign_algo.SignatureAlgorithm.{SignatureAlgorithm}
use Rattle.rcgen_sign.specs.declared.sign_algo.TheConstants as algorithm
use Rattle.shelf_fault.specs.Faults.{and_then, some_or}
use Rattle.shelf_fault.specs.declared.fault.Fault.{Fault}
use Rattle.shelf_fault.specs.declared.fault.Fault.TheVariants as fault
use Rattle.shelf_fault.specs.declared.fault.KeyFault.TheVariants.{NotRead, OtherDigest, OtherPadding, Parameters, Unknown}
use Rattle.shelf_fault.specs.declared.fault.Place.{Place}
use Rattle.shelf_profile.specs.declared.digest.Digest.{Digest}
use Rattle.shelf_profile.specs.declared.digest.Digest.TheVariants.{Sha256, Sha384, Sha512}
use Rattle.shelf_profile.specs.declared.padding.Padding.{Padding}
use Rattle.shelf_profile.specs.declared.padding.Padding.TheVariants.{Pkcs1, Pss}
use Rattle.shelf_profile.specs.declared.signing.Signing.{Signing}
use Rattle.shelf_keys.specs.Refusing.{refuse}
use Rattle.shelf_keys.specs.Encoded.{encoded}
use Rattle.shelf_keys.specs.Parameters.{parameters_fit}

-- each algorithm with its hash function and its padding; of those of a key the first is the default
unfoldable pub rows : List (SignatureAlgorithm × Option Digest × Option Padding)
rows =
    (algorithm.PKCS_RSA_SHA256, Some Sha256, Some Pkcs1)
    ∷ (algorithm.PKCS_RSA_SHA384, Some Sha384, Some Pkcs1)
    ∷ (algorithm.PKCS_RSA_SHA512, Some Sha512, Some Pkcs1)
    ∷ (algorithm.PKCS_RSA_PSS_SHA256, Some Sha256, Some Pss)
    ∷ (algorithm.PKCS_RSA_PSS_SHA384, Some Sha384, Some Pss)
    ∷ (algorithm.PKCS_RSA_PSS_SHA512, Some Sha512, Some Pss)
    ∷ (algorithm.PKCS_PSS_SHA256, Some Sha256, Some Pss)
    ∷ (algorithm.PKCS_PSS_SHA384, Some Sha384, Some Pss)
    ∷ (algorithm.PKCS_PSS_SHA512, Some Sha512, Some Pss)
    ∷ (algorithm.PKCS_PSS_ONLY_SHA256, Some Sha256, Some Pss)
    ∷ (algorithm.PKCS_PSS_ONLY_SHA384, Some Sha384, Some Pss)
    ∷ (algorithm.PKCS_PSS_ONLY_SHA512, Some Sha512, Some Pss)
    ∷ (algorithm.PKCS_ECDSA_P256_SHA256, Some Sha256, None)
    ∷ (algorithm.PKCS_ECDSA_P384_SHA384, Some Sha384, None)
    ∷ (algorithm.PKCS_ECDSA_P521_SHA512, Some Sha512, None)
    ∷ (algorithm.PKCS_ECDSA_P521_SHA384, Some Sha384, None)
    ∷ (algorithm.PKCS_ECDSA_P521_SHA256, Some Sha256, None)
    ∷ (algorithm.PKCS_ED25519, None, None)
    ∷ (algorithm.PKCS_ML_DSA_44, None, None)
    ∷ (algorithm.PKCS_ML_DSA_65, None, None)
    ∷ (algorithm.PKCS_ML_DSA_87, None, None)
    ∷ []

abbrev pub is_same : Digest → Digest → Bool
is_same Sha256 Sha256 = true
is_same Sha384 Sha384 = true
is_same Sha512 Sha512 = true
is_same _ _ = false

-- the hash function, where one is given, is the algorithm's
abbrev pub is_fit : Option Digest → Option Digest → Bool
is_fit None own = true
is_fit (Some said) None = false
is_fit (Some said) (Some own) = is_same said own

abbrev pub is_same_padding : Padding → Padding → Bool
is_same_padding Pkcs1 Pkcs1 = true
is_same_padding Pss Pss = true
is_same_padding _ _ = false

-- the padding, where one is given, is the algorithm's
abbrev pub is_padded : Option Padding → Option Padding → Bool
is_padded None own = true
is_padded (Some said) None = false
is_padded (Some said) (Some own) = is_same_padding said own

-- the algorithm signs so
abbrev pub signs_so : Signing → Option Digest → Option Padding → Bool
signs_so signing digest padding = is_fit signing.digest digest && is_padded signing.padding padding

-- the first algorithm whose keys are named by the element, and which signs so
unfoldable pub first_fit : List ℕ → Signing → Option SignatureAlgorithm
first_fit element signing =
    option_map (λ row. row.0) (find (λ row. pointwise nat_eq (key_element row.0) element && signs_so signing row.1 row.2) rows)

-- as any algorithm of the key signs
abbrev pub any_signing : Signing
any_signing = record { digest = None; padding = None }

-- with the hash function alone
abbrev pub digest_alone : Signing → Signing
digest_alone signing = record { digest = signing.digest; padding = None }

-- the algorithm of a key that is named so, whose hash function and padding may be given; a fault names the identifier in the key's own
-- algorithm
unfoldable pub algorithm_for : Place → List ℕ → List ℕ → Signing → Result SignatureAlgorithm Fault
algorithm_for place id element signing =
    and_then (some_or (first_fit element any_signing) (fault.Key place (Unknown id))) (λ any.
    and_then (some_or (first_fit element (digest_alone signing)) (fault.Key place (OtherDigest id))) (λ any.
    some_or (first_fit element signing) (fault.Key place (OtherPadding id))))

-- the key of an info without unused bits and with the parameters that its algorithm has, the algorithm by its DER
unfoldable pub key_of_info : Place → Signing → SubjectPublicKeyInfo → Result Key Fault
key_of_info place signing info =
    and_then (refuse (not (info.subject_public_key.unused == 0)) (fault.Key place NotRead)) (λ u.
    and_then (encoded algorithm_identifier (fault.Key place NotRead) info.algorithm) (λ element.
    and_then (refuse (not (parameters_fit info.algorithm)) (fault.Key place Parameters)) (λ u.
    and_then (algorithm_for place info.algorithm.algorithm element signing) (λ a.
    Ok (key_of_parts a info.subject_public_key.bytes)))))

-- the key whose SubjectPublicKeyInfo the octets are (RFC 5280, 4.1.2.7)
unfoldable pub public_key : Place → List ℕ → Signing → Result Key Fault
public_key place octets signing = and_then (some_or (value_of subject_public_key_info octets) (fault.Key place NotRead)) (key_of_info place signing)
