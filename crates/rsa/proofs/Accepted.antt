-- What follows of an accepted signature.
use Rattle.std.proofs.Common.{◌≡◌, ℕ, ◌+◌, ◌%◌, ◌^◌, ◌<◌, ◌≤◌, ◌&&◌, eqb, true, false, inl, inr, List, length, refl, sym, ◌∙◌, bytes_eq}
use Rattle.std.proofs.lemmas.Bool.{lt-ltb, le-leb, lt-leb, cases_lt, and_parts, eqb-true}
use Rattle.std.proofs.lemmas.Slice.Eq.{bytes_eq-Decides}
use Rattle.rsa.specs.declared.Hash.{Hash}
use Rattle.rsa.specs.Primitives.{os2ip, i2osp, is_decided, is_modulus, is_public_exponent}
use Rattle.rsa.specs.Pkcs1.{digest_info_len, encoded_message, has_encoded, verifies}
use Rattle.rsa.proofs.Encodings.{out_of_range, too_short}

within : (hash : Hash) (modulus : List ℕ) (e : ℕ) (message signature : List ℕ) → os2ip signature < os2ip modulus
    → digest_info_len hash + 11 ≤ length modulus → has_encoded hash modulus e message signature ≡ true
    → i2osp ((os2ip signature ^ e) % os2ip modulus) (length modulus) ≡ encoded_message hash message (length modulus)
unfolding has_encoded
within hash modulus e message signature l k h =
    let g : has_encoded hash modulus e message signature
    ≡ bytes_eq (i2osp ((os2ip signature ^ e) % os2ip modulus) (length modulus)) (encoded_message hash message (length modulus)) =
    rw (lt-ltb (os2ip signature) (os2ip modulus) l, le-leb (digest_info_len hash + 11) (length modulus) k) refl in
    let d = bytes_eq-Decides (i2osp ((os2ip signature ^ e) % os2ip modulus) (length modulus)) (encoded_message hash message (length modulus)) in
    d.0 (sym g ∙ h)

in_range : (hash : Hash) (modulus : List ℕ) (e : ℕ) (message signature : List ℕ) → has_encoded hash modulus e message signature ≡ true
    → os2ip signature < os2ip modulus
in_range hash modulus e message signature h =
    elim (cases_lt (os2ip signature) (os2ip modulus)) [
      | inl l ↦ l
      | inr l ↦ absurd (let z : false ≡ true = out_of_range hash modulus e message signature l ∙ h in (cc))
    ]

long_enough : (hash : Hash) (modulus : List ℕ) (e : ℕ) (message signature : List ℕ) → has_encoded hash modulus e message signature ≡ true
    → digest_info_len hash + 11 ≤ length modulus
long_enough hash modulus e message signature h =
    elim (cases_lt (length modulus) (digest_info_len hash + 11)) [
      | inl l ↦ absurd (let z : false ≡ true = sym (too_short hash modulus e message signature (lt-leb (digest_info_len hash + 11) (length modulus) l)) ∙ h in (cc))
      | inr l ↦ l
    ]

as_long : (modulus exponent signature : List ℕ) → is_decided modulus exponent signature ≡ true → length signature ≡ length modulus
unfolding is_decided
as_long modulus exponent signature h =
    let q = and_parts (is_modulus modulus && is_public_exponent (os2ip exponent)) (eqb (length signature) (length modulus)) h in
    eqb-true (length signature) (length modulus) q.1

parts : (hash : Hash) (modulus exponent message signature : List ℕ) → verifies hash modulus exponent message signature ≡ true
    → (length signature ≡ length modulus) × (has_encoded hash modulus (os2ip exponent) message signature ≡ true)
unfolding verifies
parts hash modulus exponent message signature h =
    let p = and_parts (is_decided modulus exponent signature) (has_encoded hash modulus (os2ip exponent) message signature) h in
    (as_long modulus exponent signature p.0, p.1)

pub accepted-length : (hash : Hash) (modulus exponent message signature : List ℕ) → verifies hash modulus exponent message signature ≡ true
    → length signature ≡ length modulus
accepted-length hash modulus exponent message signature h = (parts hash modulus exponent message signature h).0

pub accepted-range : (hash : Hash) (modulus exponent message signature : List ℕ) → verifies hash modulus exponent message signature ≡ true
    → os2ip signature < os2ip modulus
accepted-range hash modulus exponent message signature h =
    in_range hash modulus (os2ip exponent) message signature ((parts hash modulus exponent message signature h).1)

pub accepted-encoded : (hash : Hash) (modulus exponent message signature : List ℕ) → verifies hash modulus exponent message signature ≡ true
    → i2osp ((os2ip signature ^ os2ip exponent) % os2ip modulus) (length modulus) ≡ encoded_message hash message (length modulus)
accepted-encoded hash modulus exponent message signature h =
    let g = (parts hash modulus exponent message signature h).1 in
    within hash modulus (os2ip exponent) message signature (in_range hash modulus (os2ip exponent) message signature g)
    (long_enough hash modulus (os2ip exponent) message signature g) g
