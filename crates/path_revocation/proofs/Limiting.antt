-- Counts up to the largest number.
use Rattle.std.proofs.Common.{◌≡◌, List, ap, arith, length, map, min, nat_le, nat_lt, sym, ℕ, ◌*◌, ◌+◌, ◌-◌, ◌^◌}
use Rattle.std.proofs.lemmas.List.{length-map}
use Rattle.path_names.proofs.Sizes.{products_are}

pub too_much_is : (a b c d : ℕ)
    → nat_lt 1000000 (min (min (min a (2 ^ 64 - 1) * min b (2 ^ 64 - 1)) (2 ^ 64 - 1)
    + min (min c (2 ^ 64 - 1) * min d (2 ^ 64 - 1)) (2 ^ 64 - 1)) (2 ^ 64 - 1))
    ≡ nat_lt 1000000 (a * b + c * d)
too_much_is a b c d = products_are 1000000 (2 ^ 64 - 1) (omega arith) a b c d

-- as many as there are
pub few_are : {A B : Type 0} (f : A → B) (xs : List A) → nat_le (length xs) 512 ≡ nat_le (length (map f xs)) 512
few_are f xs = ap (λ (n : ℕ). nat_le n 512) (sym (length-map xs f))
