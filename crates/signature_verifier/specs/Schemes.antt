-- The kinds of keys and the signature schemes, each with the identifiers that name it (RFC 5280, 4.1.1.2, 4.1.2.7).
use Rattle.std.specs.Prelude.{ℕ, List, [], ◌∷◌, ◌++◌, Option, Some, None, find}
use Rattle.std.specs.List.{list_any}
use Rattle.asn1_core.specs.Binds.{◌>>=◌}
use Rattle.der_tree.specs.Form.{value_of}
use Rattle.ecdsa.specs.declared.Curve.TheVariants.{P256, P384, P521}
use Rattle.ecdsa.specs.declared.Hash.TheVariants as ecdsa
use Rattle.rcgen_sign.specs.Algorithms.{KeyRow, ed25519_arcs, ed25519_keys, p256_keys, p384_keys, p521_keys, rsa_keys}
use Rattle.rcgen_sign.specs.KeyInfos.{key_algorithm}
use Rattle.rcgen_sign.specs.Listed.{same_key_algorithm}
use Rattle.rcgen_sign.specs.declared.key_info.KeyAlgorithm.{KeyAlgorithm}
use Rattle.rsa.specs.Pss.{s_len}
use Rattle.rsa.specs.declared.Hash.TheVariants as rsa
use Rattle.rsa.specs.declared.digest.PssHash.{PssHash}
use Rattle.rsa.specs.declared.digest.PssHash.TheVariants as pss
use Rattle.signature_verifier.specs.declared.key_kind.KeyKind.{KeyKind}
use Rattle.signature_verifier.specs.declared.key_kind.KeyKind.TheVariants as kind
use Rattle.signature_verifier.specs.declared.scheme.SignatureScheme.{SignatureScheme}
use Rattle.signature_verifier.specs.declared.scheme.SignatureScheme.TheVariants as scheme

-- ---- AlgorithmIdentifiers

abbrev pub identifier : List ℕ → Option (List ℕ) → KeyAlgorithm
identifier arcs parameters = record { algorithm = arcs; parameters = parameters }

-- the parameters are NULL
abbrev pub with_null : List ℕ → KeyAlgorithm
with_null arcs = identifier arcs (Some (0x05 ∷ 0x00 ∷ []))

-- the parameters are absent
abbrev pub alone : List ℕ → KeyAlgorithm
alone arcs = identifier arcs None

-- that of keys
abbrev pub of_keys : KeyRow → KeyAlgorithm
of_keys row = identifier row.arcs row.parameters

-- { pkcs-1 arc } (RFC 3279, 2.2.1, RFC 4055, 2.1, 3.1)
abbrev pub pkcs_1 : ℕ → List ℕ
pkcs_1 arc = 1 ∷ 2 ∷ 840 ∷ 113549 ∷ 1 ∷ 1 ∷ arc ∷ []

-- the last arc of id-sha256, id-sha384 and id-sha512 (RFC 4055, 2.1)
abbrev pub hash_arc : PssHash → ℕ
hash_arc pss.Sha256 = 1
hash_arc pss.Sha384 = 2
hash_arc pss.Sha512 = 3

-- the DER of sha256Identifier, sha384Identifier and sha512Identifier: { 2 16 840 1 101 3 4 2 arc } with NULL (RFC 4055, 2.1)
abbrev pub hash_identifier : PssHash → List ℕ
hash_identifier hash =
    0x30 ∷ 0x0D ∷ 0x06 ∷ 0x09 ∷ 0x60 ∷ 0x86 ∷ 0x48 ∷ 0x01 ∷ 0x65 ∷ 0x03 ∷ 0x04 ∷ 0x02 ∷ hash_arc hash ∷ 0x05 ∷ 0x00 ∷ []

-- the DER of RSASSA-PSS-params (RFC 4055, 3.1): hashAlgorithm [0]; maskGenAlgorithm [1], which is id-mgf1, { pkcs-1 8 }, of the
-- same hash function; saltLength [2], the length of a digest; trailerField has its default, so it isn't there
abbrev pub pss_parameters : PssHash → List ℕ
pss_parameters hash =
    0x30 ∷ 0x34 ∷ 0xA0 ∷ 0x0F ∷ hash_identifier hash
    ++ (0xA1 ∷ 0x1C ∷ 0x30 ∷ 0x1A ∷ 0x06 ∷ 0x09 ∷ 0x2A ∷ 0x86 ∷ 0x48 ∷ 0x86 ∷ 0xF7 ∷ 0x0D ∷ 0x01 ∷ 0x01 ∷ 0x08 ∷ hash_identifier hash)
    ++ (0xA2 ∷ 0x03 ∷ 0x02 ∷ 0x01 ∷ s_len hash ∷ [])

-- id-RSASSA-PSS with these parameters (RFC 4055, 3.1)
abbrev pub rsassa_pss : PssHash → KeyAlgorithm
rsassa_pss hash = identifier (pkcs_1 10) (Some (pss_parameters hash))

-- ---- keys

abbrev pub key_identifier : KeyKind → KeyAlgorithm
-- rsaEncryption with NULL (RFC 3279, 2.3.1)
key_identifier kind.Rsa = of_keys rsa_keys
-- id-RSASSA-PSS without parameters, or with those of a signature (RFC 4055, 3.1)
key_identifier (kind.RsaPss None) = alone (pkcs_1 10)
key_identifier (kind.RsaPss (Some hash)) = rsassa_pss hash
-- id-ecPublicKey with the namedCurve secp256r1, secp384r1 or secp521r1 (RFC 5480, 2.1.1)
key_identifier (kind.Ec P256) = of_keys p256_keys
key_identifier (kind.Ec P384) = of_keys p384_keys
key_identifier (kind.Ec P521) = of_keys p521_keys
-- id-Ed25519 (RFC 8410, 3)
key_identifier kind.Ed25519 = of_keys ed25519_keys

abbrev pub kinds : List KeyKind
kinds =
    kind.Rsa ∷ kind.RsaPss None ∷ kind.RsaPss (Some pss.Sha256) ∷ kind.RsaPss (Some pss.Sha384) ∷ kind.RsaPss (Some pss.Sha512)
    ∷ kind.Ec P256 ∷ kind.Ec P384 ∷ kind.Ec P521 ∷ kind.Ed25519 ∷ []

-- the kind that has the identifier
unfoldable pub kind_of : KeyAlgorithm → Option KeyKind
kind_of name = find (λ k. same_key_algorithm (key_identifier k) name) kinds

-- the kind that the octets name, as the DER of its identifier
unfoldable pub kind_named : List ℕ → Option KeyKind
kind_named octets = value_of key_algorithm octets >>= kind_of

-- ---- signatures

-- { ecdsa-with-SHA2 arc } (RFC 5758, 3.2)
abbrev pub ecdsa_with_sha2 : ℕ → List ℕ
ecdsa_with_sha2 arc = 1 ∷ 2 ∷ 840 ∷ 10045 ∷ 4 ∷ 3 ∷ arc ∷ []

abbrev pub signature_identifiers : SignatureScheme → List KeyAlgorithm
-- sha1WithRSAEncryption with NULL (RFC 3279, 2.2.1)
signature_identifiers (scheme.RsaPkcs1 rsa.Sha1) = with_null (pkcs_1 5) ∷ []
-- sha256WithRSAEncryption, sha384WithRSAEncryption and sha512WithRSAEncryption with NULL; who reads takes them without it too (RFC 4055, 5)
signature_identifiers (scheme.RsaPkcs1 rsa.Sha256) = with_null (pkcs_1 11) ∷ alone (pkcs_1 11) ∷ []
signature_identifiers (scheme.RsaPkcs1 rsa.Sha384) = with_null (pkcs_1 12) ∷ alone (pkcs_1 12) ∷ []
signature_identifiers (scheme.RsaPkcs1 rsa.Sha512) = with_null (pkcs_1 13) ∷ alone (pkcs_1 13) ∷ []
-- id-RSASSA-PSS with its parameters (RFC 4055, 3.1)
signature_identifiers (scheme.RsaPss hash) = rsassa_pss hash ∷ []
-- ecdsa-with-SHA256, ecdsa-with-SHA384 and ecdsa-with-SHA512 (RFC 5758, 3.2)
signature_identifiers (scheme.Ecdsa ecdsa.Sha256) = alone (ecdsa_with_sha2 2) ∷ []
signature_identifiers (scheme.Ecdsa ecdsa.Sha384) = alone (ecdsa_with_sha2 3) ∷ []
signature_identifiers (scheme.Ecdsa ecdsa.Sha512) = alone (ecdsa_with_sha2 4) ∷ []
-- id-Ed25519 (RFC 8410, 3)
signature_identifiers scheme.Ed25519 = alone ed25519_arcs ∷ []

abbrev pub schemes : List SignatureScheme
schemes =
    scheme.RsaPkcs1 rsa.Sha1 ∷ scheme.RsaPkcs1 rsa.Sha256 ∷ scheme.RsaPkcs1 rsa.Sha384 ∷ scheme.RsaPkcs1 rsa.Sha512
    ∷ scheme.RsaPss pss.Sha256 ∷ scheme.RsaPss pss.Sha384 ∷ scheme.RsaPss pss.Sha512
    ∷ scheme.Ecdsa ecdsa.Sha256 ∷ scheme.Ecdsa ecdsa.Sha384 ∷ scheme.Ecdsa ecdsa.Sha512 ∷ scheme.Ed25519 ∷ []

-- the scheme that has the identifier
unfoldable pub scheme_of : KeyAlgorithm → Option SignatureScheme
scheme_of name = find (λ s. list_any (λ i. same_key_algorithm i name) (signature_identifiers s)) schemes

-- the scheme that the octets name, as the DER of an identifier of its
unfoldable pub scheme_named : List ℕ → Option SignatureScheme
scheme_named octets = value_of key_algorithm octets >>= scheme_of
