-- Verifying a signature by Ed25519 (RFC 8032, 5.1.7), in the form of PureEdDSA.
use Rattle.std.specs.Prelude.{ℕ, Bool, false, ◌&&◌, ◌==◌, nat_lt, List, ◌++◌, length, take, drop, Option, Some, None}
use Rattle.sha2.specs.Sha512.{sha512}
use Rattle.modular.specs.Numbers.{little_endian}
use Rattle.ed25519.specs.Curve.{Point, B, L, add, multiple, is_same_point, decode_point}

-- steps 1 and 3: R, A and S are decoded, S in the range 0 <= s < L, and [S]B = R + [k]A. It is the
-- equation without the cofactor 8, which step 3 allows. k is the whole number of 512 bits that step
-- 2 has. Implementations that take it modulo L give the same answer for a point A of order L, and may
-- give another one where A has a part of small order. Points A and R of small order aren't refused:
-- the RFC doesn't.
unfoldable pub meets_equation : Option Point → ℕ → Option Point → ℕ → Bool
meets_equation (Some R) S (Some A) k = nat_lt S L && is_same_point (multiple 256 S B) (add R (multiple 512 k A))
meets_equation (Some R) S None k = false
meets_equation None S A k = false

-- k (step 2): the digest of R || A || M as a number
unfoldable pub challenge : List ℕ → List ℕ → List ℕ → ℕ
challenge r a message = little_endian (sha512 (r ++ a ++ message))

-- whether the signature is one of the message under the public key: R is the signature's first half
-- as octets, and S the second half as a number
unfoldable pub verifies : List ℕ → List ℕ → List ℕ → Bool
verifies public_key message signature =
    (length public_key == 32) && (length signature == 64)
    && meets_equation (decode_point (take 32 signature)) (little_endian (drop 32 signature))
    (decode_point public_key) (challenge (take 32 signature) public_key message)
