-- The signed numbers of bytes in two's complement.
use Rattle.std.proofs.Common.{◌≡◌, ℕ, suc, ◌+◌, ◌*◌, ◌^◌, ◌<◌, Bool, true, false, cond, List, [], ◌∷◌, refl, sym, ap, ◌∙◌, arith, subst}
use Rattle.std.specs.Prelude.{nat_lt, not, ◌==◌, ◌&&◌, ◌||◌, length, pos, ◌-ℤ◌}
use Rattle.std.specs.Int.Digits.{number_from_digits_after}
use Rattle.std.proofs.Math.Nat.{pow-suc, mul-le-mul_right}
use Rattle.std.proofs.lemmas.Bool.{ltb-true, eqb-true}
use Rattle.asn1_core.specs.Arcs.{are_below}
use Rattle.asn1_core.specs.Binds.{and_true}
use Rattle.asn1_core.specs.Twos.{is_shortest, number, signed, only_repeats_sign, without_signs, twos}

from_first : (a : ℕ) (rest : List ℕ) → number (a ∷ rest) ≡ number_from_digits_after 256 a rest
from_first a rest = ap (λ (x : ℕ). number_from_digits_after 256 x rest) (let e : 0 * 256 + a ≡ a = omega arith in e)

spread : (n d p m : ℕ) → (n * 256 + d) * p + m ≡ n * (p * 256) + (d * p + m)
spread n d p m = grind arith

-- a number after another
number_behind : (n : ℕ) (bytes : List ℕ) → number_from_digits_after 256 n bytes ≡ n * 256 ^ length bytes + number bytes
number_behind n [] = omega arith
number_behind n (d ∷ ds) =
    number_behind (n * 256 + d) ds
    ∙ spread n d (256 ^ length ds) (number ds)
    ∙ ap (λ (x : ℕ). n * x + (d * 256 ^ length ds + number ds)) (sym (pow-suc 256 (length ds)))
    ∙ ap (λ (x : ℕ). n * 256 ^ suc (length ds) + x) (sym (from_first d ds ∙ number_behind d ds))

pub number_cons : (a : ℕ) (rest : List ℕ) → number (a ∷ rest) ≡ a * 256 ^ length rest + number rest
number_cons a rest = from_first a rest ∙ number_behind a rest

below_next : (a p m : ℕ) → a < 256 → m < p → a * p + m < p * 256
below_next a p m l q = omega (arith, mul-le-mul_right p l)

pub number_below : (bytes : List ℕ) → are_below 256 bytes ≡ true → number bytes < 256 ^ length bytes
number_below [] h = omega arith
number_below (a ∷ rest) h =
    let k = and_true (nat_lt a 256) (are_below 256 rest) h in
    subst (λ (x : ℕ). x < 256 ^ suc (length rest)) (sym (number_cons a rest))
    (subst (λ (x : ℕ). a * 256 ^ length rest + number rest < x) (sym (pow-suc 256 (length rest)))
    (below_next a (256 ^ length rest) (number rest) (ltb-true a 256 k.0) (number_below rest k.1)))

-- ---- a leading sign

sign_at_zero : (b : ℕ) (rest : List ℕ) → nat_lt b 128 ≡ true → signed (0 ∷ b ∷ rest) ≡ signed (b ∷ rest)
sign_at_zero b rest e =
    let low : nat_lt 127 b ≡ false = grind (arith, e) in
    let n : number (0 ∷ b ∷ rest) ≡ number (b ∷ rest) = number_cons 0 (b ∷ rest) ∙ omega arith in
    ap pos n ∙ sym (ap (λ (t : Bool). cond t (pos (number (b ∷ rest)) -ℤ pos (256 ^ length (b ∷ rest))) (pos (number (b ∷ rest)))) low)

less_top : (p m : ℕ) → pos (255 * p + m) -ℤ pos (p * 256) ≡ pos m -ℤ pos p
less_top p m = grind arith

sign_at_top : (b : ℕ) (rest : List ℕ) → nat_lt 127 b ≡ true → signed (255 ∷ b ∷ rest) ≡ signed (b ∷ rest)
sign_at_top b rest e =
    ap (λ (x : ℕ). pos x -ℤ pos (256 ^ suc (length (b ∷ rest)))) (number_cons 255 (b ∷ rest))
    ∙ ap (λ (x : ℕ). pos (255 * 256 ^ length (b ∷ rest) + number (b ∷ rest)) -ℤ pos x) (pow-suc 256 (length (b ∷ rest)))
    ∙ less_top (256 ^ length (b ∷ rest)) (number (b ∷ rest))
    ∙ sym (ap (λ (t : Bool). cond t (pos (number (b ∷ rest)) -ℤ pos (256 ^ length (b ∷ rest))) (pos (number (b ∷ rest)))) e)

signed_sign : (a b : ℕ) (rest : List ℕ) → only_repeats_sign a b ≡ true → signed (a ∷ b ∷ rest) ≡ signed (b ∷ rest)
signed_sign a b rest e = elim ((a == 0) && nat_lt b 128) as (λ t. ((a == 0) && nat_lt b 128) ≡ t → (t || ((a == 255) && nat_lt 127 b)) ≡ true → signed (a ∷ b ∷ rest) ≡ signed (b ∷ rest)) [
  | true ↦ λ f g. let k = and_true (a == 0) (nat_lt b 128) f in subst (λ (x : ℕ). signed (x ∷ b ∷ rest) ≡ signed (b ∷ rest)) (sym (eqb-true a 0 k.0)) (sign_at_zero b rest k.1)
  | false ↦ λ f g. let k = and_true (a == 255) (nat_lt 127 b) g in subst (λ (x : ℕ). signed (x ∷ b ∷ rest) ≡ signed (b ∷ rest)) (sym (eqb-true a 255 k.0)) (sign_at_top b rest k.1)
] refl e

signed_without : (bytes : List ℕ) → signed (without_signs bytes) ≡ signed bytes
signed_without [] = refl
signed_without (a ∷ []) = refl
signed_without (a ∷ b ∷ rest) = elim (only_repeats_sign a b) as (λ t. only_repeats_sign a b ≡ t → signed (cond t (without_signs (b ∷ rest)) (a ∷ b ∷ rest)) ≡ signed (a ∷ b ∷ rest)) [
  | true ↦ λ e. signed_without (b ∷ rest) ∙ sym (signed_sign a b rest e)
  | false ↦ λ e. refl
] refl

shortest_without : (a : ℕ) (rest : List ℕ) → is_shortest (without_signs (a ∷ rest)) ≡ true
shortest_without a [] = refl
shortest_without a (b ∷ rest) = elim (only_repeats_sign a b) as (λ t. only_repeats_sign a b ≡ t → is_shortest (cond t (without_signs (b ∷ rest)) (a ∷ b ∷ rest)) ≡ true) [
  | true ↦ λ e. shortest_without b rest
  | false ↦ λ e. ap not e
] refl

pub twos_signed : (bytes : List ℕ) → signed (twos bytes) ≡ signed bytes
twos_signed [] = refl
twos_signed (a ∷ rest) = signed_without (a ∷ rest)

pub twos_shortest : (bytes : List ℕ) → is_shortest (twos bytes) ≡ true
twos_shortest [] = refl
twos_shortest (a ∷ rest) = shortest_without a rest

pub ruleset twos_laws = (twos_signed, twos_shortest)
