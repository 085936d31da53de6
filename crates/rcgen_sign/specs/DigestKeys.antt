-- The stand-ins of a secret: a key, and who accepts its signatures.
use Rattle.std.specs.Prelude.{ℕ, Bool, ◌&&◌, List, ◌++◌}
use Rattle.std.specs.Str.{bytes_eq}
use Rattle.sha2.specs.Sha256.{sha256}
use Rattle.rcgen_sign.specs.declared.sign_algo.TheConstants.{PKCS_ED25519}
use Rattle.rcgen_sign.specs.Keys.{Key, key_info_octets, key_of_parts}

-- the public key: its bytes are the digest of the secret
abbrev pub digest_key : List ℕ → Key
digest_key secret = key_of_parts PKCS_ED25519 (sha256 secret)

-- the one signature of a message
abbrev pub digest_signature : List ℕ → List ℕ → List ℕ
digest_signature secret message = sha256 (secret ++ message)

-- the key is that of the secret, known by the DER of its info, and the signature is the one of what is signed
abbrev pub accepts_digest : List ℕ → List ℕ → List ℕ → List ℕ → Bool
accepts_digest secret info key signature =
    bytes_eq key (key_info_octets (digest_key secret)) && bytes_eq signature (digest_signature secret info)
