-- RSASSA-PSS (RFC 8017, whose sections are named): who verifies a signature decides by this. Its options are
-- those of RFC 4055, 3.1: the mask generation function is MGF1 with the hash function of the message, the salt
-- is as long as a digest, and the trailer field is BC.
use Rattle.std.specs.Prelude.{ℕ, zero, suc, ◌+◌, ◌-◌, ◌*◌, ◌/◌, ◌%◌, ◌^◌, Bool, false, cond, ◌&&◌, ◌==◌, nat_lt, nat_le, List, [], ◌∷◌, ◌++◌, length, take, drop, replicate, slice_index, bit_xor, Option, Some, None}
use Rattle.std.specs.Int.Count.{count_leading_zeros}
use Rattle.std.specs.List.{list_all}
use Rattle.std.specs.Str.{bytes_eq}
use Rattle.sha2.specs.Sha256.{sha256}
use Rattle.sha2.specs.Sha512.{sha384, sha512}
use Rattle.rsa.specs.Primitives.{os2ip, i2osp, rsavp1, is_decided}
use Rattle.rsa.specs.declared.digest.PssHash.{PssHash}
use Rattle.rsa.specs.declared.digest.PssHash.TheVariants.{Sha256, Sha384, Sha512}

-- ---- the options

-- Hash: the digest of a message
abbrev pub hash_of : PssHash → List ℕ → List ℕ
hash_of Sha256 message = sha256 message
hash_of Sha384 message = sha384 message
hash_of Sha512 message = sha512 message

-- hLen: how many octets a digest has
abbrev pub h_len : PssHash → ℕ
h_len Sha256 = 32
h_len Sha384 = 48
h_len Sha512 = 64

-- sLen: how many octets the salt has
abbrev pub s_len : PssHash → ℕ
s_len hash = h_len hash

-- ---- MGF1 (B.2.1)

-- T after the counters below a number (step 3)
unfoldable pub hashed_counters : PssHash → List ℕ → ℕ → List ℕ
hashed_counters hash seed zero = []
hashed_counters hash seed (suc counter) = hashed_counters hash seed counter ++ hash_of hash (seed ++ i2osp counter 4)

-- how often the divisor fits, and once more for what is left
abbrev pub ceiling : ℕ → ℕ → ℕ
ceiling number divisor = (number + divisor - 1) / divisor

-- the leading octets of T, as many as the mask has (step 4). No mask here is too long for step 1: a modulus has at
-- most 1024 octets.
unfoldable pub mgf1 : PssHash → List ℕ → ℕ → List ℕ
mgf1 hash seed mask_len = take mask_len (hashed_counters hash seed (ceiling mask_len (h_len hash)))

-- ---- EMSA-PSS-VERIFY (9.1.2)

-- the exclusive or of two strings of octets
unfoldable pub xor : List ℕ → List ℕ → List ℕ
xor [] ys = []
xor (x ∷ xs) [] = []
xor (x ∷ xs) (y ∷ ys) = bit_xor x y ∷ xor xs ys

-- maskedDB: the leftmost emLen - hLen - 1 octets of EM (step 5)
abbrev pub masked_db : PssHash → List ℕ → List ℕ
masked_db hash em = take (length em - h_len hash - 1) em

-- H: the next hLen octets (step 5)
abbrev pub h_octets : PssHash → List ℕ → List ℕ
h_octets hash em = take (h_len hash) (drop (length em - h_len hash - 1) em)

-- of the leftmost octet the leftmost bits, so many, are zero (step 6)
abbrev pub begins_with_zeros : ℕ → List ℕ → Bool
begins_with_zeros bits octets = nat_lt (slice_index octets 0) (2 ^ (8 - bits))

-- of the leftmost octet the leftmost bits, so many, set to zero (step 9)
unfoldable pub with_zeros : ℕ → List ℕ → List ℕ
with_zeros bits [] = []
with_zeros bits (octet ∷ octets) = octet % 2 ^ (8 - bits) ∷ octets

-- DB (steps 7 to 9)
unfoldable pub db : PssHash → ℕ → List ℕ → List ℕ → List ℕ
db hash bits masked h = with_zeros bits (xor masked (mgf1 hash h (length masked)))

-- DB, of emLen - hLen - 1 octets, begins with emLen - hLen - sLen - 2 that are zero, and one that is 01 (step 10)
unfoldable pub has_padding : PssHash → List ℕ → Bool
has_padding hash db =
    list_all (λ octet. octet == 0x00) (take (length db - s_len hash - 1) db) && (slice_index db (length db - s_len hash - 1) == 0x01)

-- the salt: the last sLen octets of DB (step 11)
abbrev pub salt : PssHash → List ℕ → List ℕ
salt hash db = drop (length db - s_len hash) db

-- H': the digest of M', which is eight zero octets, the message's digest and the salt (steps 12 and 13)
unfoldable pub salted_hash : PssHash → List ℕ → List ℕ → List ℕ
salted_hash hash message salt = hash_of hash (replicate 8 0x00 ++ hash_of hash message ++ salt)

-- DB is right, and H is what comes of its salt (steps 10 to 14)
unfoldable pub is_salted : PssHash → List ℕ → List ℕ → List ℕ → Bool
is_salted hash message h db = has_padding hash db && bytes_eq h (salted_hash hash message (salt hash db))

-- consistent: EM of emLen octets, of whose bits emBits are used, is that of the message (2 to 14)
unfoldable pub emsa_pss_verify : PssHash → List ℕ → List ℕ → ℕ → Bool
emsa_pss_verify hash message em em_bits =
    nat_le (h_len hash + s_len hash + 2) (length em) && (slice_index em (length em - 1) == 0xBC)
    && begins_with_zeros (8 * length em - em_bits) (masked_db hash em)
    && is_salted hash message (h_octets hash em) (db hash (8 * length em - em_bits) (masked_db hash em) (h_octets hash em))

-- ---- RSASSA-PSS-VERIFY (8.1.2)

-- modBits: the length in bits of the modulus n
abbrev pub mod_bits : List ℕ → ℕ
mod_bits modulus = 8 * length modulus - count_leading_zeros (8 * length modulus) (os2ip modulus)

-- EM of emLen octets; none where m is too large for so many (step 2 c)
abbrev pub em_of : ℕ → Option ℕ → Option (List ℕ)
em_of em_len None = None
em_of em_len (Some m) = cond (nat_lt m (256 ^ em_len)) (Some (i2osp m em_len)) None

-- EM is the message's (step 3)
abbrev pub is_consistent : PssHash → List ℕ → ℕ → Option (List ℕ) → Bool
is_consistent hash message em_bits None = false
is_consistent hash message em_bits (Some em) = emsa_pss_verify hash message em em_bits

-- steps 2 and 3 under the key with modulus n and exponent e
unfoldable pub has_signed : PssHash → List ℕ → ℕ → List ℕ → List ℕ → Bool
has_signed hash modulus e message signature =
    is_consistent hash message (mod_bits modulus - 1)
    (em_of (ceiling (mod_bits modulus - 1) 8) (rsavp1 (os2ip modulus) e (os2ip signature)))

-- RSASSA-PSS-VERIFY: the signature is that of the message under the key of these octets. Of a key that isn't
-- decided no signature is one.
unfoldable pub verifies : PssHash → List ℕ → List ℕ → List ℕ → List ℕ → Bool
verifies hash modulus exponent message signature =
    is_decided modulus exponent signature && has_signed hash modulus (os2ip exponent) message signature
