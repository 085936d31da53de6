-- Which signatures are accepted.
use Rattle.std.specs.Prelude.{ℕ, Bool, true, false, ◌&&◌, List, Option, Some, None}
use Rattle.std.specs.Option.{option_map_or}
use Rattle.ecdsa.specs.Ecdsa as ecdsa
use Rattle.ed25519.specs.Verification as ed25519
use Rattle.rsa.specs.Pkcs1 as pkcs1
use Rattle.rsa.specs.Pss as pss
use Rattle.rsa.specs.declared.Hash.{Hash}
use Rattle.rsa.specs.declared.Hash.TheVariants as hash
use Rattle.rsa.specs.declared.digest.PssHash.{PssHash}
use Rattle.rsa.specs.declared.digest.PssHash.TheVariants.{Sha256, Sha384, Sha512}
use Rattle.signature_verifier.specs.declared.key_kind.KeyKind.{KeyKind}
use Rattle.signature_verifier.specs.declared.key_kind.KeyKind.TheVariants as kind
use Rattle.signature_verifier.specs.declared.scheme.SignatureScheme.{SignatureScheme}
use Rattle.signature_verifier.specs.declared.scheme.SignatureScheme.TheVariants as scheme
use Rattle.signature_verifier.specs.declared.verifier.SignatureVerifier.{SignatureVerifier}
use Rattle.signature_verifier.specs.Keys.{Key}
use Rattle.signature_verifier.specs.PublicKeys.{key_in, rsa_key}
use Rattle.signature_verifier.specs.Schemes.{scheme_named}

-- RSASSA-PKCS1-v1_5 under the key whose RSAPublicKey the octets are (RFC 8017, 8.2.2, A.1.1)
unfoldable pub is_signed_by_rsa : Hash → List ℕ → List ℕ → List ℕ → Bool
is_signed_by_rsa hash octets message signature = option_map_or (λ k. pkcs1.verifies hash k.0 k.1 message signature) (rsa_key octets) false

-- RSASSA-PSS under the key whose RSAPublicKey the octets are (RFC 8017, 8.1.2, A.1.1)
unfoldable pub is_signed_by_pss : PssHash → List ℕ → List ℕ → List ℕ → Bool
is_signed_by_pss hash octets message signature = option_map_or (λ k. pss.verifies hash k.0 k.1 message signature) (rsa_key octets) false

-- a key of id-RSASSA-PSS is for its own hash function, and without parameters for each (RFC 4055, 3.3)
abbrev pub allows : Option PssHash → PssHash → Bool
allows None hash = true
allows (Some Sha256) Sha256 = true
allows (Some Sha384) Sha384 = true
allows (Some Sha512) Sha512 = true
allows (Some _) _ = false

abbrev pub signed_under : SignatureScheme → KeyKind → List ℕ → List ℕ → List ℕ → Bool
-- the octets are an RSAPublicKey (RFC 3279, 2.3.1)
signed_under (scheme.RsaPkcs1 hash) kind.Rsa octets message signature = is_signed_by_rsa hash octets message signature
signed_under (scheme.RsaPss hash) kind.Rsa octets message signature = is_signed_by_pss hash octets message signature
signed_under (scheme.RsaPss hash) (kind.RsaPss own) octets message signature = allows own hash && is_signed_by_pss hash octets message signature
-- the octets are the point (RFC 5480, 2.2)
signed_under (scheme.Ecdsa hash) (kind.Ec curve) octets message signature = ecdsa.verifies curve hash octets message signature
-- the octets are the key (RFC 8410, 4)
signed_under scheme.Ed25519 kind.Ed25519 octets message signature = ed25519.verifies octets message signature
-- a key of another kind
signed_under _ _ octets message signature = false

-- the signature is that of the message, by the scheme and under the key
unfoldable pub is_signed : SignatureScheme → Key → List ℕ → List ℕ → Bool
is_signed scheme k message signature = signed_under scheme k.kind k.octets message signature

-- SHA-1 is taken only where it is asked for
abbrev pub is_taken : SignatureVerifier → SignatureScheme → Bool
is_taken v (scheme.RsaPkcs1 hash.Sha1) = v.takes_sha1
is_taken v _ = true

-- the signature over a message under the key of an info and by the algorithm of an identifier, both in DER, is accepted
unfoldable pub accepts : SignatureVerifier → List ℕ → List ℕ → List ℕ → List ℕ → Bool
accepts v message key_info algorithm signature =
    option_map_or (λ k. option_map_or (λ s. is_taken v s && is_signed s k message signature) (scheme_named algorithm) false) (key_in key_info) false
