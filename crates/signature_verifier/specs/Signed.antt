-- What an accepted signature is, apart from how that is found.
use Rattle.std.specs.Prelude.{◌≡◌, ℕ, true, List, Contains}
use Rattle.asn1_core.specs.Bits.{bits}
use Rattle.der_tree.specs.Form.{IsDerOf}
use Rattle.rcgen_sign.specs.KeyInfos.{key_algorithm, key_info}
use Rattle.rcgen_sign.specs.declared.key_info.KeyAlgorithm.{KeyAlgorithm}
use Rattle.rcgen_sign.specs.declared.key_info.KeyInfo.{KeyInfo}
use Rattle.signature_verifier.specs.declared.scheme.SignatureScheme.{SignatureScheme}
use Rattle.signature_verifier.specs.declared.verifier.SignatureVerifier.{SignatureVerifier}
use Rattle.signature_verifier.specs.Accepted.{is_signed, is_taken}
use Rattle.signature_verifier.specs.Keys.{Key}
use Rattle.signature_verifier.specs.Schemes.{key_identifier, signature_identifiers}

-- the key under its kind's identifier, no bits unused (RFC 5280, 4.1.2.7)
abbrev pub info_of : Key → KeyInfo
info_of k = record { algorithm = key_identifier k.kind; subject_public_key = bits 0 k.octets }

-- the signature is the message's by the scheme and under the key, and the octets name both
pub record IsSigned (v : SignatureVerifier) (scheme : SignatureScheme) (k : Key) (message key_octets algorithm signature : List ℕ) : Type 0 where
  -- the DER of the key's SubjectPublicKeyInfo
  pub key_is : IsDerOf key_info (info_of k) key_octets
  -- the DER of one of the scheme's identifiers
  pub name : KeyAlgorithm
  pub name_is : IsDerOf key_algorithm name algorithm
  pub is_listed : Contains (signature_identifiers scheme) name
  pub is_allowed : is_taken v scheme ≡ true
  pub verified : is_signed scheme k message signature ≡ true
