-- The numbers of bytes.
use Rattle.std.proofs.Common.{◌≡◌, ℕ, zero, suc, ◌+◌, ◌*◌, ◌^◌, ◌<◌, ◌≤◌, Bool, true, false, cond, List, ◌∷◌, Some, None, refl, get_or, sym, ap, ◌∙◌, arith}
use Rattle.std.specs.Prelude.{nat_lt, not}
use Rattle.std.specs.Int.{w64, byte_at, bytes_high_first, to_be_bytes}
use Rattle.std.specs.Int.Digits.{digits_of, number_from_digits_after}
use Rattle.std.proofs.lemmas.Bool.{lt-ltb}
use Rattle.std.proofs.lemmas.Int.Digits.{number_after_ge}
use Rattle.std.proofs.lemmas.Nat.{from_be_bytes-to_be_bytes_8}
use Rattle.asn1_core.specs.Arcs.{are_below}
use Rattle.asn1_core.specs.Binds.{true_and}
use Rattle.asn1_core.specs.Twos.{is_shortest, are_twos, is_negative, number, unsigned}
use Rattle.asn1_core.specs.Unsigned.{number_64, unsigned_64_to, unsigned_64_of, unsigned_digits, unsigned_shortest, unsigned_not_negative, number_unsigned}
use Rattle.asn1_core.proofs.Below.{are_below_each}

pub number_too_large : (high b : ℕ) (bytes : List ℕ) → 2 ^ 56 ≤ high → 2 ^ 64 ≤ number_from_digits_after 256 high (b ∷ bytes)
number_too_large high b bytes l = omega (arith, number_after_ge 256 (high * 256 + b) bytes (omega arith))

pub ruleset unsigned_laws = (unsigned_shortest, unsigned_not_negative, number_unsigned)

byte_below : (k n : ℕ) → byte_at k n < 256
byte_below zero n = omega arith
byte_below (suc k) n = omega arith

bytes_below : (k n : ℕ) → are_below 256 (bytes_high_first k n) ≡ true
bytes_below zero n = refl
bytes_below (suc k) n = true_and (nat_lt (byte_at k n) 256) (are_below 256 (bytes_high_first k n)) (lt-ltb (byte_at k n) 256 (byte_below k n)) (bytes_below k n)

number_bytes : (n : ℕ) → n < 2 ^ 64 → number (to_be_bytes w64 n) ≡ n
number_bytes n l = omega (arith, from_be_bytes-to_be_bytes_8 n l)

pub bytes_written : (n : ℕ) (v : List ℕ) → n < 2 ^ 64 → v ≡ unsigned (to_be_bytes w64 n) → unsigned_64_to n ≡ Some v
bytes_written n v l e =
    ap (λ (t : Bool). cond t (Some (unsigned (digits_of 256 n))) None) (lt-ltb n (2 ^ 64) l)
    ∙ ap (λ (x : List ℕ). Some x) (ap (λ (x : ℕ). unsigned (digits_of 256 x)) (sym (number_bytes n l)) ∙ unsigned_digits (to_be_bytes w64 n) (bytes_below 8 n) ∙ sym e)

pub whole_read : (bytes : List ℕ) → ((k : ℕ) → get_or bytes k 0 < 256) → is_shortest bytes ≡ true → is_negative bytes ≡ false → unsigned_64_of bytes ≡ number_64 bytes
whole_read bytes h p q =
    ap (λ (t : Bool). cond t (number_64 bytes) None)
    (true_and (are_twos bytes) (not (is_negative bytes)) (true_and (is_shortest bytes) (are_below 256 bytes) p (are_below_each 256 bytes h)) (ap not q))
