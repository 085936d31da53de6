-- What is before and after an octet.
use Rattle.std.specs.Prelude.{◌≡◌, ◌==◌, ◌<◌, ℕ, true, false, nat_lt, List, length, Option, Some, None, refl}
use Rattle.std.specs.List.{after_first, before_first, position_or_len}
use Rattle.std.proofs.Common.{arith}
use Rattle.register_lines.specs.Index.{cut}

below : (n m : ℕ) → n < m → nat_lt n m ≡ true
below n m l = grind arith

not_below : (n m : ℕ) → n ≡ m → nat_lt n m ≡ false
not_below n m e = grind arith

pub cut_there : (c : ℕ) (text front back : List ℕ) → position_or_len (λ b. b == c) text < length text
    → front ≡ before_first (λ b. b == c) text → back ≡ after_first (λ b. b == c) text
    → ◌≡◌ {A = Option (List ℕ × List ℕ)} (Some (front, back)) (cut c text)
unfolding cut
cut_there c text front back l f b = rw (below _ _ l, f, b) refl

pub cut_nowhere : (c : ℕ) (text : List ℕ) → position_or_len (λ b. b == c) text ≡ length text
    → ◌≡◌ {A = Option (List ℕ × List ℕ)} None (cut c text)
unfolding cut
cut_nowhere c text e = rw (not_below _ _ e) refl
