-- Seconds since 1970 within the years 0 to 9999.
use Rattle.std.specs.Prelude.{◌≡◌, ℤ, pos, neg_ℤ, ◌*ℤ◌, ◌≤ℤ◌, true, int_le, refl}
use Rattle.std.proofs.Common.{arith}
use Rattle.jiff.proofs.SpanFacts.{signed_arith}
use Rattle.jiff.specs.Words.{IsCivilNanos}
use Rattle.asn1_core.specs.Binds.{and_true}
use Rattle.asn1_core.specs.Moment.{Moment, has_utc, instant}
use Rattle.register_lines.specs.Times.{has_year}

from_le : (a b : ℤ) → int_le a b ≡ true → a ≤ℤ b
from_le a b h = grind arith

to_le : (a b : ℤ) → a ≤ℤ b → int_le a b ≡ true
to_le a b h = grind arith

bounds : (s : ℤ) → has_year s ≡ true → (neg_ℤ (pos 62_167_219_200) ≤ℤ s) × (s ≤ℤ pos 253_402_300_799)
unfolding has_year
bounds s h =
    let p = and_true (int_le (neg_ℤ (pos 62_167_219_200)) s) (int_le s (pos 253_402_300_799)) h in
    (from_le (neg_ℤ (pos 62_167_219_200)) s p.0, from_le s (pos 253_402_300_799) p.1)

pub in_range : (s : ℤ) → has_year s ≡ true → IsCivilNanos (s *ℤ pos 1_000_000_000)
in_range s h =
    let b = bounds s h in
    let l : neg_ℤ (pos 377_705_116_800_000_000_000) ≤ℤ (s *ℤ pos 1_000_000_000) = omega (arith, signed_arith, b.0) in
    let m : (s *ℤ pos 1_000_000_000) ≤ℤ pos 253_402_300_799_999_999_999 = omega (arith, signed_arith, b.1) in
    (l, m)

pub utc_at : (m : Moment) (s : ℤ) → instant m ≡ s *ℤ pos 1_000_000_000 → has_year s ≡ true → has_utc m ≡ true
utc_at m s n h =
    let b = bounds s h in
    let l : neg_ℤ (pos 62_167_219_200_000_000_000) ≤ℤ (s *ℤ pos 1_000_000_000) = omega (arith, signed_arith, b.0) in
    let k : (s *ℤ pos 1_000_000_000) ≤ℤ pos 253_402_300_799_999_999_999 = omega (arith, signed_arith, b.1) in
    rw (n, to_le _ _ l, to_le _ _ k) refl
