-- How many names are compared, counted up to the largest number.
use Rattle.std.proofs.Common.{◌≡◌, arith, min, nat_lt, ℕ, ◌*◌, ◌-◌, ◌^◌}
use Rattle.path_names.proofs.Sizes.{sum_is}

pub many_are : (a b : ℕ) → nat_lt 65536 (min (a * b) (2 ^ 64 - 1)) ≡ nat_lt 65536 (a * b)
many_are a b = sum_is 65536 (2 ^ 64 - 1) (omega arith) (a * b)
