-- The bits of bytes.
use Rattle.std.proofs.Common.{◌≡◌, ℕ, suc, ◌+◌, ◌-◌, ◌*◌, ◌/◌, ◌%◌, ◌^◌, ◌<◌, ◌≤◌, true, false, refl, sym, ap, ◌∙◌, arith, length}
use Rattle.std.specs.Prelude.{nat_lt, slice_index, ◌==◌, ◌&&◌, ◌||◌}
use Rattle.std.proofs.Math.Nat.{le-mul_of_pos_right}
use Rattle.std.proofs.lemmas.Nat.{mod-pow-add, pow_pos}
use Rattle.std.proofs.lemmas.Bool.{ltb-true, ltb-false, eqb-true, ne_eqb}
use Rattle.asn1_core.specs.Binds.{and_true}
use Rattle.asn1_core.specs.Bits.{Bits, are_bits, bit_count, has_bit}

no_factor : (m p : ℕ) → 0 < p → m * p ≡ 0 → m ≡ 0
no_factor m p l e = omega (arith, le-mul_of_pos_right m l)

-- a bit below those that are zero is zero
low_bit : (x j e : ℕ) → x % 2 ^ (suc j + e) ≡ 0 → x / 2 ^ e % 2 ≡ 0
low_bit x j e h =
    let front : (x / 2 ^ e % 2 ^ suc j) * 2 ^ e + x % 2 ^ e ≡ 0 = sym (mod-pow-add x (suc j) e) ∙ h in
    let none : x / 2 ^ e % 2 ^ suc j ≡ 0 = no_factor (x / 2 ^ e % 2 ^ suc j) (2 ^ e) (pow_pos e) (omega arith) in
    let split : x / 2 ^ e % 2 ^ (j + 1) ≡ (x / 2 ^ e / 2 ^ 1 % 2 ^ j) * 2 ^ 1 + x / 2 ^ e % 2 ^ 1 = mod-pow-add (x / 2 ^ e) j 1 in
    let more : j + 1 ≡ suc j = omega arith in
    let zeros : (x / 2 ^ e / 2 ^ 1 % 2 ^ j) * 2 ^ 1 + x / 2 ^ e % 2 ^ 1 ≡ 0 = sym split ∙ ap (λ (n : ℕ). x / 2 ^ e % 2 ^ n) more ∙ none in
    omega arith

unused_bit : (x u e : ℕ) → e < u → x % 2 ^ u ≡ 0 → x / 2 ^ e % 2 ≡ 0
unused_bit x u e l h =
    let split : u ≡ suc (u - suc e) + e = omega arith in
    low_bit x (u - suc e) e (ap (λ (n : ℕ). x % 2 ^ n) (sym split) ∙ h)

past_end : (s : Bits) (i : ℕ) → are_bits s ≡ true → i / 8 < length s.bytes → bit_count s ≤ i → slice_index s.bytes (i / 8) / 2 ^ (7 - i % 8) % 2 ≡ 0
past_end s i h l m =
    let k = and_true (nat_lt s.unused 8 && (s.unused == 0 || nat_lt 0 (length s.bytes))) (slice_index s.bytes (length s.bytes - 1) % 2 ^ s.unused == 0) h in
    let few : s.unused < 8 = ltb-true s.unused 8 (and_true (nat_lt s.unused 8) (s.unused == 0 || nat_lt 0 (length s.bytes)) k.0).0 in
    let last : length s.bytes - 1 ≡ i / 8 = omega arith in
    unused_bit (slice_index s.bytes (i / 8)) s.unused (7 - i % 8) (omega arith)
    (ap (λ (n : ℕ). slice_index s.bytes n % 2 ^ s.unused) (sym last) ∙ eqb-true (slice_index s.bytes (length s.bytes - 1) % 2 ^ s.unused) 0 k.1)

-- the bit of the byte is the bit of the string
pub bit_is : (s : Bits) (i : ℕ) → are_bits s ≡ true → i / 8 < length s.bytes → (slice_index s.bytes (i / 8) / 2 ^ (7 - i % 8) % 2 == 1) ≡ has_bit s i
bit_is s i h l = elim (nat_lt i (bit_count s)) as (λ t. nat_lt i (bit_count s) ≡ t → (slice_index s.bytes (i / 8) / 2 ^ (7 - i % 8) % 2 == 1) ≡ (t && (slice_index s.bytes (i / 8) / 2 ^ (7 - i % 8) % 2 == 1))) [
  | true ↦ λ e. refl
  | false ↦ λ e. let z = past_end s i h l (ltb-false i (bit_count s) e) in ne_eqb (slice_index s.bytes (i / 8) / 2 ^ (7 - i % 8) % 2) 1 (λ f. omega arith)
] refl
