-- Bit strings, and their contents octets (X.690, 8.6, 11.2.1).
use Rattle.std.specs.Prelude.{◌≡◌, ℕ, ◌-◌, ◌*◌, ◌/◌, ◌%◌, ◌^◌, Bool, ◌&&◌, ◌||◌, cond, nat_lt, ◌==◌, List, [], ◌∷◌, length, slice_index, Option, Some, None}
use Rattle.std.proofs.Common.{ap, subst}
use Rattle.asn1_core.specs.Binds.{chosen}
use Rattle.asn1_core.specs.Contents.{Contents}

pub record Bits : Type 0 where
  pub bytes : List ℕ
  -- how many bits of the last byte are not of the string
  pub unused : ℕ

-- fewer than 8 unused bits, none without a byte, and each of them zero
abbrev pub are_bits : Bits → Bool
are_bits b = nat_lt b.unused 8 && (b.unused == 0 || nat_lt 0 (length b.bytes)) && (slice_index b.bytes (length b.bytes - 1) % 2 ^ b.unused == 0)

-- how many bits the string has
abbrev pub bit_count : Bits → ℕ
bit_count b = 8 * length b.bytes - b.unused

-- the string has bit i, and it is 1: it counts 2^(7 - i % 8) in the byte i / 8
abbrev pub has_bit : Bits → ℕ → Bool
has_bit b i = nat_lt i (bit_count b) && (slice_index b.bytes (i / 8) / 2 ^ (7 - i % 8) % 2 == 1)

abbrev pub bits_to : Bits → Option (List ℕ)
bits_to b = cond (are_bits b) (Some (b.unused ∷ b.bytes)) None

abbrev pub bits : ℕ → List ℕ → Bits
bits unused bytes = record { bytes = bytes; unused = unused }

abbrev pub bits_of : List ℕ → Option Bits
bits_of [] = None
bits_of (unused ∷ bytes) = cond (are_bits (bits unused bytes)) (Some (bits unused bytes)) None

pub bits_there : (b : List ℕ) (v : Bits) → bits_of b ≡ Some v → bits_to v ≡ Some b
bits_there [] v e = absurd cc
bits_there (unused ∷ bytes) v e =
    let k = chosen (are_bits (bits unused bytes)) (bits unused bytes) v e in
    subst (λ (x : Bits). bits_to x ≡ Some (unused ∷ bytes)) k.1 (ap (λ (t : Bool). cond t (Some (unused ∷ bytes)) None) k.0)

pub bits_back : (v : Bits) (b : List ℕ) → bits_to v ≡ Some b → bits_of b ≡ Some v
bits_back v b e =
    let k = chosen (are_bits v) (v.unused ∷ v.bytes) b e in
    subst (λ (x : List ℕ). bits_of x ≡ Some v) k.1 (ap (λ (t : Bool). cond t (Some v) None) k.0)

unfoldable pub bit_string_contents : Contents Bits
bit_string_contents = record { to = bits_to; of = bits_of; there = bits_there; back = bits_back }
