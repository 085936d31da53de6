-- RSASSA-PKCS1-v1_5 (RFC 8017): who verifies a signature decides by this. Octets are lists of
-- numbers below 256, and section numbers are the RFC's.
use Rattle.std.specs.Prelude.{ℕ, ◌+◌, ◌-◌, Bool, false, cond, ◌&&◌, nat_le, List, [], ◌∷◌, ◌++◌, length, replicate, Option, Some, None}
use Rattle.std.specs.Str.{bytes_eq}
use Rattle.sha1.specs.Sha1.{sha1}
use Rattle.sha2.specs.Sha256.{sha256}
use Rattle.sha2.specs.Sha512.{sha384, sha512}
use Rattle.rsa.specs.Primitives.{os2ip, i2osp, rsavp1, is_decided}
use Rattle.rsa.specs.declared.Hash.{Hash}
use Rattle.rsa.specs.declared.Hash.TheVariants.{Sha1, Sha256, Sha384, Sha512}

-- the DER of a DigestInfo up to its digest (9.2, note 1), whose algorithm has the parameters NULL
abbrev pub digest_info_prefix : Hash → List ℕ
digest_info_prefix Sha1 = 0x30 ∷ 0x21 ∷ 0x30 ∷ 0x09 ∷ 0x06 ∷ 0x05 ∷ 0x2B ∷ 0x0E ∷ 0x03 ∷ 0x02 ∷ 0x1A ∷ 0x05 ∷ 0x00 ∷ 0x04 ∷ 0x14 ∷ []
digest_info_prefix Sha256 =
    0x30 ∷ 0x31 ∷ 0x30 ∷ 0x0D ∷ 0x06 ∷ 0x09 ∷ 0x60 ∷ 0x86 ∷ 0x48 ∷ 0x01 ∷ 0x65 ∷ 0x03 ∷ 0x04 ∷ 0x02 ∷ 0x01 ∷ 0x05 ∷ 0x00 ∷ 0x04 ∷ 0x20 ∷ []
digest_info_prefix Sha384 =
    0x30 ∷ 0x41 ∷ 0x30 ∷ 0x0D ∷ 0x06 ∷ 0x09 ∷ 0x60 ∷ 0x86 ∷ 0x48 ∷ 0x01 ∷ 0x65 ∷ 0x03 ∷ 0x04 ∷ 0x02 ∷ 0x02 ∷ 0x05 ∷ 0x00 ∷ 0x04 ∷ 0x30 ∷ []
digest_info_prefix Sha512 =
    0x30 ∷ 0x51 ∷ 0x30 ∷ 0x0D ∷ 0x06 ∷ 0x09 ∷ 0x60 ∷ 0x86 ∷ 0x48 ∷ 0x01 ∷ 0x65 ∷ 0x03 ∷ 0x04 ∷ 0x02 ∷ 0x03 ∷ 0x05 ∷ 0x00 ∷ 0x04 ∷ 0x40 ∷ []

-- the digest of a message
abbrev pub digest_of : Hash → List ℕ → List ℕ
digest_of Sha1 message = sha1 message
digest_of Sha256 message = sha256 message
digest_of Sha384 message = sha384 message
digest_of Sha512 message = sha512 message

-- the DER of a message's DigestInfo: T (9.2, step 2)
abbrev pub digest_info : Hash → List ℕ → List ℕ
digest_info hash message = digest_info_prefix hash ++ digest_of hash message

-- how many octets that is, of every message
abbrev pub digest_info_len : Hash → ℕ
digest_info_len Sha1 = 35
digest_info_len Sha256 = 51
digest_info_len Sha384 = 67
digest_info_len Sha512 = 83

-- EM of em_len octets (9.2, step 5), where that is long enough
unfoldable pub encoded_message : Hash → List ℕ → ℕ → List ℕ
encoded_message hash message em_len =
    0x00 ∷ 0x01 ∷ (replicate (em_len - digest_info_len hash - 3) 0xFF ++ (0x00 ∷ digest_info hash message))

-- EMSA-PKCS1-v1_5 (9.2): none where the intended length is too short
abbrev pub emsa_pkcs1_v1_5 : Hash → List ℕ → ℕ → Option (List ℕ)
emsa_pkcs1_v1_5 hash message em_len =
    cond (nat_le (digest_info_len hash + 11) em_len) (Some (encoded_message hash message em_len)) None

-- the message m of a signature is EM, as k octets (8.2.2, steps 2 to 4)
abbrev pub is_encoded : ℕ → Option ℕ → Option (List ℕ) → Bool
is_encoded k (Some m) (Some em) = bytes_eq (i2osp m k) em
is_encoded k (Some m) None = false
is_encoded k None em = false

-- steps 2 to 4 of RSASSA-PKCS1-V1_5-VERIFY (8.2.2) under the key with modulus n and exponent e
unfoldable pub has_encoded : Hash → List ℕ → ℕ → List ℕ → List ℕ → Bool
has_encoded hash modulus e message signature =
    is_encoded (length modulus) (rsavp1 (os2ip modulus) e (os2ip signature)) (emsa_pkcs1_v1_5 hash message (length modulus))

-- RSASSA-PKCS1-V1_5-VERIFY (8.2.2): the signature is that of the message under the key of these
-- octets. Of a key that isn't decided no signature is one.
unfoldable pub verifies : Hash → List ℕ → List ℕ → List ℕ → List ℕ → Bool
verifies hash modulus exponent message signature =
    is_decided modulus exponent signature && has_encoded hash modulus (os2ip exponent) message signature
